use Rattle.std.proofs.Common.{◌≤◌, ◌<◌}
use Rattle.fixed_fit.specs.Fitting.{Exceeds}
use Rattle.fixed_fit.proofs.lengths.count_left.Given as goal

abbrev pub invariant-loop-left : goal.invariant-loop-left
invariant-loop-left g l = record {
  fewer : l.left ≤ l.count;
  exceeds : l.left < l.count → Exceeds l.radix l.kind.signed l.kind.width l.left l.line;
}

abbrev pub decreases-loop-left : goal.decreases-loop-left
decreases-loop-left g l = l.left
