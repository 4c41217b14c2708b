use Rattle.std.proofs.Common.{◌≤◌, ◌<◌, ◌-◌, ℕ}
use Rattle.fixed_bits.specs.declared.mode.ReadMode.TheVariants.{NearestEven}
use Rattle.fixed_error.specs.ErrorSize.{HasErrorAbove}
use Rattle.fixed_fit.proofs.serving.raised.Given as goal

abbrev pub invariant-loop-least : goal.invariant-loop-least
invariant-loop-least g l = record {
  more : l.low ≤ l.least;
  above : (f : ℕ) → l.low ≤ f → f < l.least → HasErrorAbove NearestEven l.radix f l.line l.bound;
}

abbrev pub decreases-loop-least : goal.decreases-loop-least
decreases-loop-least g l = l.most - l.least
