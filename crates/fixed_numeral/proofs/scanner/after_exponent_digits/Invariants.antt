use Rattle.std.proofs.Common.{◌-◌, ◌≤◌, true, length, take}
use Rattle.fixed_numeral.specs.declared.radix.Radix.{Radix}
use Rattle.fixed_numeral.specs.Inner.Scan.{IsAfter, max_magnitude}
use Rattle.fixed_numeral.proofs.scanner.after_exponent_digits.Given as goal

abbrev pub invariant-loop-next : goal.invariant-loop-next
invariant-loop-next l = record { place : l.fn.from ≤ l.at; within : l.at ≤ length l.bytes; room : l.next.magnitude ≤ max_magnitude true; after : (r : Radix) → IsAfter r (take l.fn.from l.bytes) l.fn.state → IsAfter r (take l.at l.bytes) l.next }

abbrev pub decreases-loop-next : goal.decreases-loop-next
decreases-loop-next l = length l.bytes - l.at
