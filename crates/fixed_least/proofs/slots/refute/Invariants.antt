use Rattle.std.proofs.Common.{◌≡◌, length}
use Rattle.fixed_least.specs.Inner.Slots.{AreLiving}
use Rattle.fixed_least.proofs.SlotLemmas.{NotedBelow}
use Rattle.fixed_least.proofs.slots.refute.Given as goal

abbrev pub invariant-loop-kind : goal.invariant-loop-kind
invariant-loop-kind l = record {
  low_size : length l.lows ≡ 8;
  high_size : length l.highs ≡ 8;
  living : AreLiving l.slots l.lows l.highs;
  noted : NotedBelow l.kind l.value l.place l.initial.slots l.slots;
}
