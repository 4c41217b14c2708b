use Rattle.std.proofs.Common.{◌∙◌, arith, ◌^◌, ◌-◌, pos, ◌*ℤ◌, lit<, ◌≤◌}
use Rattle.std.specs.Int.{w128}
use Rattle.std.specs.Prelude.{FitsSigned, ℤ, ℕ}
use Rattle.std.proofs.Math.Pow.{pow_mono}
use Rattle.std.proofs.lemmas.Int.{ints, fits_signed_mul, wrapping_mul_is, int_wrap_fits}
use Rattle.fixed_bits.specs.Ranges.{IsWide}
use Rattle.fixed_convert.proofs.floored.times_power.Goals as goal

product_fits : (b : ℤ) (k : ℕ) → IsWide b → k ≤ 63 → FitsSigned w128 (b *ℤ pos (2 ^ k))
product_fits b k w h = fits_signed_mul w128 b (pos (2 ^ k)) (2 ^ 64 - 1) (2 ^ 63) (grind (arith, ints, w.low, w.high)) (pow_mono h) (lit< tt)

power_fits : (k : ℕ) → k ≤ 63 → FitsSigned w128 (pos (2 ^ k))
power_fits k h = let p : 2 ^ k ≤ 2 ^ 63 = pow_mono h in omega (arith, ints)

pub returns : goal.returns
returns c =
    let k = c.args.shift in
    let least : k ≤ 63 = omega arith in
    wrapping_mul_is w128 c.args.b (pos (2 ^ k)) c.ranges.b (power_fits k least) ∙ int_wrap_fits w128 (c.args.b *ℤ pos (2 ^ k)) (product_fits c.args.b k c.requires.wide least)
