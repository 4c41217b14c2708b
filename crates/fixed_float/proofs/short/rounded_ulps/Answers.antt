use Rattle.std.proofs.Common.{◌^◌, ◌/◌, ◌%◌, arith, ap, ◌∙◌}
use Rattle.fixed_bits.specs.Rounded.{magnitude_mode}
use Rattle.fixed_float.specs.Inner.Bias.{bias}
use Rattle.fixed_float.proofs.BiasLemmas.{bias_most}
use Rattle.fixed_float.proofs.ShortLemmas.{half_most, ulps_are}
use Rattle.fixed_float.proofs.short.rounded_ulps.Goals as goal

pub bias_of-bias-requires-clause-most : goal.bias_of-bias-requires-clause-most
bias_of-bias-requires-clause-most c = omega (arith, c.power_of_two.ensures.power, half_most c.args.down c.requires.some c.requires.most)

pub overflow_add-result : goal.overflow_add-result
overflow_add-result c =
    let half = half_most c.args.down c.requires.some c.requires.most in
    let most = bias_most (magnitude_mode c.args.mode c.args.negative) c.power_of_two.result (c.args.parts / 2 ^ c.args.down % 2) (omega arith) in
    omega (arith, c.bias_of-bias.ensures, most, half, c.power_of_two.ensures.power, c.requires.few)

pub returns : goal.returns
returns c den either =
    ulps_are c.args.mode c.args.negative c.args.parts c.args.down c.bias_of-bias.result den c.requires.some (c.bias_of-bias.ensures ∙ ap (λ h. bias (magnitude_mode c.args.mode c.args.negative) h (c.args.parts / 2 ^ c.args.down % 2)) c.power_of_two.ensures.power) either
