use Rattle.fixed_error.proofs.HalfLemmas.{moved_bit}
use Rattle.fixed_error.proofs.half.moved_up.Goals as goal

pub returns : goal.returns
returns c = λ i from below. moved_bit c.args.digits c.args.places i from below
