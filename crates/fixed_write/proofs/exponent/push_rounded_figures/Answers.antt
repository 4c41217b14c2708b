use Rattle.std.proofs.Common.{rules}
use Rattle.fixed_write.proofs.FigureLemmas.{in_ulps_of, rounded_kept, rounded_raised}
use Rattle.fixed_write.proofs.exponent.push_rounded_figures.Goals as goal

pub returns-then-rounded-clause-figures : goal.returns-then-rounded-clause-figures
returns-then-rounded-clause-figures c =
    rounded_raised _ _ _ _ _ _ _ _ _ _ _ _ _ c.requires.some c.leading_of-leading.result.value.below (in_ulps_of _ _ _ _ c.requires.frac c.split_of.ensures.whole c.split_of.ensures.rest) c.leading_of-leading.ensures c.push_rounded-rounded.ensures.figures c.if-rounded.true (search rules)

pub returns-else-rounded-clause-figures : goal.returns-else-rounded-clause-figures
returns-else-rounded-clause-figures c =
    rounded_kept _ _ _ _ _ _ _ _ _ _ _ _ _ c.requires.some c.leading_of-leading.result.value.below (in_ulps_of _ _ _ _ c.requires.frac c.split_of.ensures.whole c.split_of.ensures.rest) c.leading_of-leading.ensures c.push_rounded-rounded.ensures.figures c.if-rounded.false (search rules)
