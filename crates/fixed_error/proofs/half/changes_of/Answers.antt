use Rattle.std.proofs.Common.{◌+◌, ◌%◌, ◌∙◌, ap}
use Rattle.std.specs.Int.{bit_at}
use Rattle.std.proofs.lemmas.Nat.Bits.{bit_at_xor}
use Rattle.fixed_error.proofs.half.changes_of.Goals as goal

pub returns : goal.returns
returns c = λ i from below. bit_at_xor c.args.digits c.moved_up.result i ∙ ap (λ t. (bit_at c.args.digits i + t) % 2) (c.moved_up.ensures i from below)
