use Rattle.std.proofs.Common.{drop}
use Rattle.fixed_numeral.proofs.SegmentLemmas.{if_some, short_parts}
use Rattle.fixed_numeral.proofs.short.short_numeral.Goals as goal

pub returns-then-from-ge-LANES-clause-parts : goal.returns-then-from-ge-LANES-clause-parts
returns-then-from-ge-LANES-clause-parts g c = if_some _ _ c.ending_numeral.result (λ n f p h. short_parts c.args.radix (drop c.args.from c.args.text.now) n.negative n.whole n.fraction n.places n.exponent n.scales_by_two p f h) c.ending_numeral.ensures.short

pub returns-clause-parts : goal.returns-clause-parts
returns-clause-parts g c = if_some _ _ c.copy_alone.result (λ n f p h. short_parts c.args.radix (drop c.args.from c.args.text.now) n.negative n.whole n.fraction n.places n.exponent n.scales_by_two p f h) (rw c.bytes_from.ensures at c.copy_alone.ensures.short)
