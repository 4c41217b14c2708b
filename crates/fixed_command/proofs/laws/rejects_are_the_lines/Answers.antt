use Rattle.fixed_command.proofs.RejectLemmas.{rejects_are}
use Rattle.fixed_command.proofs.laws.rejects_are_the_lines.Goals as goal

pub returns : goal.returns
returns g c = rejects_are _ _ _ _ _
