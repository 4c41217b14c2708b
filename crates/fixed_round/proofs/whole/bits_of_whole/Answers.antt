use Rattle.std.proofs.Common.{◌∙◌, arith, ◌^◌, pos, ◌*ℤ◌, ◌≤◌}
use Rattle.std.specs.Int.{w128}
use Rattle.std.specs.Prelude.{FitsSigned}
use Rattle.std.proofs.Math.Pow.{pow_mono}
use Rattle.std.proofs.lemmas.Int.{ints, wrapping_mul_is, int_wrap_fits}
use Rattle.fixed_round.proofs.whole.bits_of_whole.Goals as goal

pub returns : goal.returns
returns c =
    let f = c.args.f in
    let p : 2 ^ f ≤ 2 ^ 64 = pow_mono c.requires.frac in
    let unit : FitsSigned w128 (pos (2 ^ f)) = omega (arith, ints) in
    let product : FitsSigned w128 (c.args.w *ℤ pos (2 ^ f)) = omega (arith, ints, c.requires.low, c.requires.high) in
    wrapping_mul_is w128 c.args.w (pos (2 ^ f)) c.ranges.w unit ∙ int_wrap_fits w128 (c.args.w *ℤ pos (2 ^ f)) product
