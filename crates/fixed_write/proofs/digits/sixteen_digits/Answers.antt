use Rattle.std.proofs.Common.{ℕ, ◌^◌, ◌<◌, refl, ◌∙◌, arith}
use Rattle.std.specs.Int.Digits.{AllBelowBase}
use Rattle.fixed_write.specs.Inner.Lanes.{pairs_of, digits_of_pairs}
use Rattle.fixed_write.proofs.LaneLemmas.{digits_below, added}
use Rattle.fixed_write.proofs.SixteenLemmas.{sixteen_digits_are}
use Rattle.fixed_write.proofs.digits.sixteen_digits.Goals as goal

small : (n : ℕ) → n < 10 ^ 16 → AllBelowBase 100 (pairs_of n)
small n h = omega arith

pub returns : goal.returns
returns c =
    rw c.digits.ensures (added (digits_of_pairs (pairs_of c.args.number)) 16 refl (digits_below (pairs_of c.args.number) (small c.args.number c.requires)) ∙ sixteen_digits_are c.args.number c.requires)
