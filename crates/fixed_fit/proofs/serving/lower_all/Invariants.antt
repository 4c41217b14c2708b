use Rattle.std.proofs.Common.{◌≡◌, length, take, drop}
use Rattle.fixed_fit.specs.Inner.Serving.{AreAllLowered, most_left}
use Rattle.fixed_fit.proofs.serving.lower_all.Given as goal

abbrev pub invariant-loop-left : goal.invariant-loop-left
invariant-loop-left g l = record {
  long : length l.left-items ≡ length l.initial.left-items;
  left : drop l.left-index l.left-items ≡ drop l.left-index l.initial.left-items;
  done : AreAllLowered l.radix l.line l.place (take l.left-index l.initial.left-items) (take l.left-index l.left-items);
  most : l.most ≡ most_left (take l.left-index l.left-items);
}
