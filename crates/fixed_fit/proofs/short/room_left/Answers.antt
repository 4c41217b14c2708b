use Rattle.std.proofs.Common.{◌≡◌, ◌-◌, ◌^◌, ℕ, ◌∙◌, ap, arith}
use Rattle.fixed_fit.specs.Inner.Lengths.{magnitude_bits}
use Rattle.fixed_fit.proofs.ShortLemmas.{room_by}
use Rattle.fixed_fit.proofs.short.room_left.Goals as goal

pub returns : goal.returns
returns c = λ f last.
    let left = c.args.left in
    let end : ℕ = c.wide_power_of_two-greatest.result in
    let ulps : left.count - 1 ≡ f = omega (arith, last) in
    let bits : end ≡ 2 ^ magnitude_bits left.kind.signed left.kind.width = c.wide_power_of_two-greatest.ensures ∙ ap (λ (n : ℕ). 2 ^ n) c.magnitude_bits.ensures.bits in
    rw c.from.ensures (room_by end (magnitude_bits left.kind.signed left.kind.width) (left.count - 1) f (10 ^ 18) ulps bits)
