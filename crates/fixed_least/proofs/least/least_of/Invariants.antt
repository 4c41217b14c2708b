use Rattle.std.proofs.Common.{◌≡◌, ◌<◌, get_or, length}
use Rattle.fixed_bits.specs.Formats.{FormatParts, IsTypeFormat}
use Rattle.fixed_bits.specs.Order.{rank}
use Rattle.fixed_least.specs.Inner.Slots.{slot_of}
use Rattle.fixed_least.proofs.least.least_of.Given as goal

abbrev pub invariant-loop-i : goal.invariant-loop-i
invariant-loop-i l = record {
  size : length l.places ≡ 248;
  passed : (f : FormatParts) → IsTypeFormat f.width f.frac → rank f < l.i → (get_or l.places (rank f) 0 ≡ get_or l.slots (slot_of f) 0) × (get_or l.slots (slot_of f) 0 ≡ 0 → ⊥);
}
