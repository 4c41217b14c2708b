use Rattle.fixed.proofs.commands.pack.pack_lines.Goals as goal

pub returns-in-Some : goal.returns-in-Some
returns-in-Some g c = rw c.in-Some.is (_, c.pack_on-in-Some.ensures)
