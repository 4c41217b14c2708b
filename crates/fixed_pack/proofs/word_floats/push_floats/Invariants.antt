use Rattle.std.proofs.Common.{◌+◌, ◌-◌, ◌*◌, ◌≤◌, length}
use Rattle.fixed_pack.specs.Floats.{IsWordFloat}
use Rattle.fixed_pack.proofs.RecodeLemmas.{Leaves}
use Rattle.fixed_pack.proofs.word_floats.push_floats.Given as goal

abbrev pub invariant-loop-left : goal.invariant-loop-left
invariant-loop-left l = record {
  front : Leaves l.size (IsWordFloat l.words) l.bytes l.initial.out l.out (l.most - l.left) l.rest;
  within : l.left ≤ l.most;
  long : l.size * l.left ≤ length l.rest;
  room : length l.out + 8 * l.left ≤ 8192;
}

abbrev pub decreases-loop-left : goal.decreases-loop-left
decreases-loop-left l = l.left
