use Rattle.std.proofs.Common.{refl}
use Rattle.fixed_float.proofs.FieldLemmas.{reading_from}
use Rattle.fixed_float.specs.declared.layout.FloatLayout.TheVariants.{Binary64}
use Rattle.fixed_float.proofs.reading.read_binary64.Goals as goal

pub returns-in-Some-clause-reading : goal.returns-in-Some-clause-reading
returns-in-Some-clause-reading c = reading_from c.args.mode Binary64 c.args.bits _ c.in-Some.fields c.read_fields.result refl c.in-Some.ensures.fields c.read_fields.ensures.reading
