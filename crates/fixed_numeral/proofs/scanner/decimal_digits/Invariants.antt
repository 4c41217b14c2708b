use Rattle.std.proofs.Common.{length, ◌-◌}
use Rattle.fixed_numeral.specs.Inner.Run.{IsRun}
use Rattle.fixed_numeral.proofs.scanner.decimal_digits.Given as goal

abbrev pub invariant-loop-at : goal.invariant-loop-at
invariant-loop-at l = IsRun 10 l.bytes l.fn.from l.at

abbrev pub decreases-loop-at : goal.decreases-loop-at
decreases-loop-at l = length l.bytes - l.at
