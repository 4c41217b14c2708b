use Rattle.fixed.proofs.commands.constants.numerals_of.Goals as goal

pub returns-in-Err-clause-refused : goal.returns-in-Err-clause-refused
returns-in-Err-clause-refused c a asked = c.in-Err.ensures.refused a.format asked.format
