use Rattle.std.proofs.Common.{ℕ, ◌<◌, ◌-◌, length}
use Rattle.fixed_error.specs.declared.errors.LengthError.{LengthError}
use Rattle.fixed_error.proofs.WordLemmas.{IsWordWithinAt}
use Rattle.fixed_error.proofs.errors.are_within_by_digits.Given as goal

abbrev pub invariant-loop-frac : goal.invariant-loop-frac
invariant-loop-frac l = (f : ℕ) (d : LengthError) → f < l.frac → f < length l.errors → IsWordWithinAt l.word l.errors f d

abbrev pub decreases-loop-frac : goal.decreases-loop-frac
decreases-loop-frac l = length l.errors - l.frac
