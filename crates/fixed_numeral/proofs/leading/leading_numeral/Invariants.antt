use Rattle.std.proofs.Common.{length, ◌-◌}
use Rattle.fixed_numeral.proofs.LeadingLemmas.{IsWalked}
use Rattle.fixed_numeral.proofs.leading.leading_numeral.Given as goal

abbrev pub invariant-loop-at : goal.invariant-loop-at
invariant-loop-at g l = IsWalked l.radix l.bytes l.at l.last l.state l.fn.steps l.steps

abbrev pub decreases-loop-at : goal.decreases-loop-at
decreases-loop-at g l = length l.bytes - l.at
