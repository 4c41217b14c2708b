use Rattle.std.proofs.Common.{refl}
use Rattle.fixed_respell.specs.SelfMode.{tally_of}
use Rattle.fixed_respell.proofs.self_mode.Counts.new.Goals as goal

pub returns : goal.returns
unfolding tally_of
returns c = refl
