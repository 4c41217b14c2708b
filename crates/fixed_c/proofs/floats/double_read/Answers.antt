use Rattle.fixed_float.specs.declared.layout.FloatLayout.TheVariants.{Binary64}
use Rattle.fixed_c.specs.Numbers.{format_of}
use Rattle.fixed_c.proofs.FloatLemmas.{float_answered, float_unnamed}
use Rattle.fixed_c.proofs.floats.double_read.Goals as goal

pub returns-in-Ok : goal.returns-in-Ok
returns-in-Ok c =
    float_answered Binary64 c.args.bits (format_of c.args.format.is_signed c.args.format.width c.args.format.frac) c.args.policy c.args.mode c.in-Ok.asked c.in-Ok.ensures c.read_double.result c.read_double.ensures

pub returns-in-Err : goal.returns-in-Err
returns-in-Err c =
    float_unnamed Binary64 c.args.bits (format_of c.args.format.is_signed c.args.format.width c.args.format.frac) c.args.policy c.args.mode c.in-Err.refusal c.in-Err.ensures
