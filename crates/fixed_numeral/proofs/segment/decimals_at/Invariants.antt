use Rattle.std.proofs.Common.{◌≤◌, ◌-◌}
use Rattle.fixed_numeral.specs.Inner.Segments.{IsDigitRun}
use Rattle.fixed_numeral.proofs.segment.decimals_at.Given as goal

abbrev pub invariant-loop-at : goal.invariant-loop-at
invariant-loop-at l = IsDigitRun 10 l.bytes l.fn.from l.at l.number × (l.at ≤ l.fn.limit)

abbrev pub decreases-loop-at : goal.decreases-loop-at
decreases-loop-at l = l.fn.limit - l.at
