use Rattle.std.proofs.Common.{drop}
use Rattle.fixed_error.specs.Errors.{AreBoundsNearHalf}
use Rattle.fixed_error.proofs.errors.are_near_half.Given as goal

abbrev pub invariant-loop-error : goal.invariant-loop-error
invariant-loop-error l = AreBoundsNearHalf (drop l.error-index l.errors) → AreBoundsNearHalf l.errors
