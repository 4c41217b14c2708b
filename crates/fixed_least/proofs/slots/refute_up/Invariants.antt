use Rattle.std.proofs.Common.{◌≡◌, ◌⊎◌, ◌<◌, ◌≤◌, ℕ, get_or, length}
use Rattle.fixed_least.specs.Inner.Slots.{slot, kind_format}
use Rattle.fixed_least.specs.Inner.Valued.{HasValue}
use Rattle.fixed_least.proofs.slots.refute_up.Given as goal

abbrev pub invariant-loop-frac : goal.invariant-loop-frac
invariant-loop-frac l = record {
  size : length l.slots ≡ 520;
  refused : (k : ℕ) → l.low ≤ k → k < l.frac → (get_or l.slots (slot l.kind k) 0 ≡ l.place) × (HasValue (kind_format l.kind k) l.value → ⊥);
  others : (i : ℕ) → (i < slot l.kind l.low) ⊎ (slot l.kind l.frac ≤ i) → get_or l.slots i 0 ≡ get_or l.initial.slots i 0;
}
