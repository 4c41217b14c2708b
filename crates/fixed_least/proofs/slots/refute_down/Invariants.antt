use Rattle.std.proofs.Common.{◌≡◌, ◌⊎◌, ◌<◌, ◌≤◌, ℕ, get_or, length}
use Rattle.fixed_least.specs.Inner.Slots.{slot, kind_format}
use Rattle.fixed_least.specs.Inner.Valued.{HasValue}
use Rattle.fixed_least.proofs.slots.refute_down.Given as goal

abbrev pub invariant-loop-end : goal.invariant-loop-end
invariant-loop-end l = record {
  size : length l.slots ≡ 520;
  low : l.low ≤ l.end;
  high : l.end ≤ l.high;
  refused : (k : ℕ) → l.end ≤ k → k < l.high → (get_or l.slots (slot l.kind k) 0 ≡ l.place) × (HasValue (kind_format l.kind k) l.value → ⊥);
  others : (i : ℕ) → (i < slot l.kind l.end) ⊎ (slot l.kind l.high ≤ i) → get_or l.slots i 0 ≡ get_or l.initial.slots i 0;
}

abbrev pub decreases-loop-end : goal.decreases-loop-end
decreases-loop-end l = l.end
