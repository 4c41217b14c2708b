use Rattle.std.proofs.Common.{refl}
use Rattle.fixed_float.proofs.ShortLemmas.{short_reading}
use Rattle.fixed_float.specs.declared.layout.FloatLayout.TheVariants.{Binary64}
use Rattle.fixed_float.proofs.short.short_binary64.Goals as goal

pub returns-clause-number : goal.returns-clause-number
returns-clause-number c = short_reading c.args.mode Binary64 c.args.bits c.args.format.frac _ c.in_ok-binary64_fields.field-0 c.short_number.result refl c.in_ok-binary64_fields.ensures.fields c.short_number.ensures.some c.short_number.ensures.number
