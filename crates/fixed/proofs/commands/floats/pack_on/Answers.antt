use Rattle.fixed.proofs.commands.floats.pack_on.Goals as goal

pub returns-in-None : goal.returns-in-None
returns-in-None g c = rw c.in-None.is c.recode_on.ensures

pub returns-in-Some : goal.returns-in-Some
returns-in-Some g c = rw c.in-Some.is c.recode_on-in-Some.ensures
