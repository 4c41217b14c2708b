use Rattle.std.proofs.Common.{arith}
use Rattle.fixed_float.proofs.reading.read_fields.Goals as goal

pub returns-then-scale-unit-clause-reading : goal.returns-then-scale-unit-clause-reading
returns-then-scale-unit-clause-reading c = c.read_part.ensures.reading c.args.unit (omega (arith, c.frac.ensures.frac, c.if-scale-unit.true))

pub returns-else-scale-unit-clause-reading : goal.returns-else-scale-unit-clause-reading
returns-else-scale-unit-clause-reading c = c.read_whole.ensures.reading c.args.mode c.args.unit (omega (arith, c.frac.ensures.frac, c.if-scale-unit.false))
