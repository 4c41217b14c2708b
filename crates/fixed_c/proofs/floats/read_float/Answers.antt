use Rattle.fixed_float.specs.declared.layout.FloatLayout.TheVariants.{Binary32}
use Rattle.fixed_c.proofs.floats.read_float.Goals as goal

pub returns : goal.returns
returns c = c.brought.ensures Binary32 c.args.bits c.args.asked.now.mode c.read_binary32.ensures.finite c.read_binary32.ensures.reading
