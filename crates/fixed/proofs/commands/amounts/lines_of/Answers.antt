use Rattle.fixed.proofs.commands.amounts.lines_of.Goals as goal

pub returns-in-Err-clause-refused : goal.returns-in-Err-clause-refused
returns-in-Err-clause-refused c job asked = c.in-Err.ensures.refused asked.settings asked.are_settings
