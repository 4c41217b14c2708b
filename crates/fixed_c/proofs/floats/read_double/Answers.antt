use Rattle.fixed_float.specs.declared.layout.FloatLayout.TheVariants.{Binary64}
use Rattle.fixed_c.proofs.floats.read_double.Goals as goal

pub returns : goal.returns
returns c = c.brought.ensures Binary64 c.args.bits c.args.asked.now.mode c.read_binary64.ensures.finite c.read_binary64.ensures.reading
