-- Statements of this crate's laws.
use Rattle.std.specs.Prelude.{◌≡◌, ℕ, ◌^◌, ◌≤◌, Bool, ℤ, pos, ◌*ℤ◌, ◌<ℤ◌}
use Rattle.std.specs.Cmp.{IsTotalOrder}
use Rattle.std.specs.Ordering.{MatchOrdering}
use Rattle.fixed_bits.specs.Ranges.{IsWidth}
use Rattle.fixed_bits.specs.Images.{IsImage, IsInRangeBy}
use Rattle.fixed_bits.specs.Down.{down}
use Rattle.fixed_bits.specs.declared.format.Policy.{Policy}
use Rattle.fixed_convert.specs.Order.{order_of, order}

-- the moved number has the same value
abbrev pub IsExact : ℤ → ℕ → ℕ → Type 0
IsExact b f g = down b f g *ℤ pos (2 ^ f) ≡ b *ℤ pos (2 ^ g)

abbrev pub FinerIsExact : Type 0
FinerIsExact = (b : ℤ) (f g : ℕ) → f ≤ g → IsExact b f g

-- a conversion that loses no fraction bits and fits is undone by the one back: c and e are the results of the two,
-- under any policies
abbrev pub ConversionIsUndone : Type 0
ConversionIsUndone = (p q : Policy) (s t : Bool) (m n f g : ℕ) (b c e : ℤ) → IsWidth m → IsWidth n
    → IsInRangeBy q s m b → IsExact b f g → IsInRangeBy p t n (down b f g)
    → IsImage p t n (down b f g) c → IsImage q s m (down c g f) e → e ≡ b

-- the order is that of the two values, in each of its three cases
abbrev pub OrderIsOfValues : Type 0
OrderIsOfValues = (b : ℤ) (f : ℕ) (c : ℤ) (g : ℕ) → MatchOrdering (order_of b f c g)
    ((b *ℤ pos (2 ^ g)) <ℤ (c *ℤ pos (2 ^ f))) (b *ℤ pos (2 ^ g) ≡ c *ℤ pos (2 ^ f))
    ((c *ℤ pos (2 ^ f)) <ℤ (b *ℤ pos (2 ^ g)))

-- the order is reversed if the sides are swapped, and transitive through any third format
abbrev pub OrderIsTotal : Type 0
OrderIsTotal = IsTotalOrder order

-- a number moved without loss keeps its order
abbrev pub ExactIsEqual : Type 0
ExactIsEqual = (b : ℤ) (f g : ℕ) (c : ℤ) (h : ℕ) → IsExact b f g → order_of (down b f g) g c h ≡ order_of b f c h
