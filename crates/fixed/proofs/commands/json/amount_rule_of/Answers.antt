use Rattle.fixed.proofs.commands.json.amount_rule_of.Goals as goal

pub returns-in-Err-clause-refused : goal.returns-in-Err-clause-refused
returns-in-Err-clause-refused c rule quotes files asked = c.in-Err.ensures.refused asked.settings asked.are_settings
