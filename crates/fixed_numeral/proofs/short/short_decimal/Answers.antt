use Rattle.fixed_numeral.specs.declared.radix.Radix.TheVariants.{Dec}
use Rattle.fixed_numeral.proofs.SegmentLemmas.{if_some, short_parts}
use Rattle.fixed_numeral.proofs.short.short_decimal.Goals as goal

pub returns-clause-parts : goal.returns-clause-parts
returns-clause-parts g c = if_some _ _ c.decimal_of.result (λ n f p h. short_parts Dec c.args.s.now n.negative n.whole n.fraction n.places n.exponent n.scales_by_two p f h) c.decimal_of.ensures.short
