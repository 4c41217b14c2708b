use Rattle.std.proofs.Common.{◌≤◌, ◌<◌, take}
use Rattle.fixed_fit.specs.Inner.Serving.{IsIn}
use Rattle.fixed_fit.specs.declared.lengths.Lengths.{Lengths}
use Rattle.fixed_fit.proofs.serving.best_of.Given as goal

abbrev pub invariant-loop-left : goal.invariant-loop-left
invariant-loop-left l = record {
  among : IsIn l.best l.lengths;
  least : (x : Lengths) → IsIn x (take l.left-index l.lengths) → l.low < x.count → (l.low < l.best.count) × (l.best.kind.width ≤ x.kind.width);
}
