use Rattle.std.proofs.Common.{◌+◌, ◌-◌, min, arith, ap, refl, ◌∙◌}
use Rattle.fixed_float.proofs.ShortLemmas.{shifted}
use Rattle.fixed_float.proofs.short.short_number.Goals as goal

pub returns-clause-number : goal.returns-clause-number
returns-clause-number c = record {
  rounded = shifted c.args.mode c.args.fields.negative c.args.fields.significand c.args.fields.scale c.args.format.frac c.args.unit c.min-down.result c.rounded_ulps.result c.requires.few_bits (omega (arith, c.if-scale-unit.false, c.frac.ensures.frac)) (c.min-down.ensures ∙ ap (λ x. min (c.args.unit + 8 - (c.args.fields.scale + x)) 62) c.frac.ensures.frac) c.rounded_ulps.ensures;
  sign = refl;
}
