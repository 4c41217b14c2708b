-- Statements of this crate's laws.
use Rattle.std.specs.Prelude.{◌≡◌, ℕ, ◌^◌, ◌↔◌, ℤ, pos, ◌*ℤ◌}
use Rattle.fixed_round.specs.Whole.{IsWhole, whole, whole_bits}
use Rattle.fixed_round.specs.declared.rounding.Rounding.{Rounding}

-- each rounding takes a value to exactly one whole number, which is `whole`
abbrev pub WholeIsTheOne : Type 0
WholeIsTheOne = (r : Rounding) (b : ℤ) (f : ℕ) (w : ℤ) → IsWhole r b f w ↔ (w ≡ whole r b f)

-- each rounding takes a whole number to itself
abbrev pub WholeIsItsOwn : Type 0
WholeIsItsOwn = (r : Rounding) (w : ℤ) (f : ℕ) → whole_bits r (w *ℤ pos (2 ^ f)) f ≡ w *ℤ pos (2 ^ f)
