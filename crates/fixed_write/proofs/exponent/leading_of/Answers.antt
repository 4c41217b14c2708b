use Rattle.fixed_write.proofs.LeadingLemmas.{leading_above}
use Rattle.fixed_write.proofs.exponent.leading_of.Goals as goal

pub returns-then-value-gt0 : goal.returns-then-value-gt0
returns-then-value-gt0 c = leading_above _ _ _ c.decade_of.ensures.low c.decade_of.ensures.high c.decade_of.ensures.few
