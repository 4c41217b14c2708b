use Rattle.std.proofs.Common.{◌<◌, ◌-◌, ℕ, []}
use Rattle.fixed_fit.specs.Within.{IsErrorWithin}
use Rattle.fixed_fit.proofs.half.first_length.Given as goal

abbrev pub invariant-loop-least : goal.invariant-loop-least
invariant-loop-least g l = record { least : (f : ℕ) → f < l.least → ¬ IsErrorWithin l.is_range l.radix f l.bound [] }

abbrev pub decreases-loop-least : goal.decreases-loop-least
decreases-loop-least g l = 65 - l.least
