use Rattle.fixed.proofs.commands.unpack.words_on.Goals as goal

pub returns-in-Lines : goal.returns-in-Lines
returns-in-Lines g c = rw c.in-Lines.is c.lines_on.ensures

pub returns-in-Amounts : goal.returns-in-Amounts
returns-in-Amounts g c = rw c.in-Amounts.is c.lines_on-in-Amounts.ensures

pub returns-in-Floats : goal.returns-in-Floats
returns-in-Floats g c = rw c.in-Floats.is c.unpack_on.ensures
