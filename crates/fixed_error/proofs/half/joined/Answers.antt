use Rattle.std.proofs.Common.{◌∙◌, ap}
use Rattle.std.specs.Prelude.{max}
use Rattle.std.specs.Int.{bit_at}
use Rattle.std.proofs.lemmas.Nat.Bits.{bit_at_or}
use Rattle.fixed_error.proofs.half.joined.Goals as goal

pub returns : goal.returns
returns c = λ i from below. bit_at_or c.args.digits c.moved_up.result i ∙ ap (λ t. max (bit_at c.args.digits i) t) (c.moved_up.ensures i from below)
