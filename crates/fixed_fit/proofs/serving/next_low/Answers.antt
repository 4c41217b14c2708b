use Rattle.fixed_fit.proofs.ServingLemmas.{low_least, low_within, range_least, range_within}
use Rattle.fixed_fit.proofs.serving.next_low.Goals as goal

pub returns-then-is_range-clause-within : goal.returns-then-is_range-clause-within
returns-then-is_range-clause-within g c = λ lines h _. range_within c.args.is_range c.args.radix c.args.bound.now lines c.args.line.now c.args.low c.if-is_range.true h

pub returns-then-is_range-clause-least : goal.returns-then-is_range-clause-least
returns-then-is_range-clause-least g c = λ lines h. range_least c.args.is_range c.args.radix c.args.bound.now lines c.args.line.now c.args.low c.if-is_range.true h

pub returns-else-is_range-clause-within : goal.returns-else-is_range-clause-within
returns-else-is_range-clause-within g c = λ lines h less. low_within c.args.is_range c.args.radix c.args.bound.now lines c.args.line.now c.args.low c.raised.result c.if-is_range.false c.raised.ensures.more (c.raised.ensures.within less) h

pub returns-else-is_range-clause-least : goal.returns-else-is_range-clause-least
returns-else-is_range-clause-least g c = λ lines h. low_least c.args.is_range c.args.radix c.args.bound.now lines c.args.line.now c.args.low c.raised.result c.if-is_range.false c.raised.ensures.above h
