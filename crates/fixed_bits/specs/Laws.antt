-- Statements of this crate's laws.
use Rattle.std.specs.Prelude.{◌≡◌, ℕ, ◌*◌, ◌<◌, ◌≤◌, ◌↔◌, ◌⊎◌, Bool, false, ℤ, ◌≤ℤ◌}
use Rattle.fixed_bits.specs.Ranges.{IsInRange, IsOutOfRange, IsWidth, IsWide, lowest, greatest}
use Rattle.fixed_bits.specs.Images.{IsImage, IsInRangeBy, IsOutOfRangeBy, IsSaturated}
use Rattle.fixed_bits.specs.Down.{IsDown, down}
use Rattle.fixed_bits.specs.Formats.{FormatParts, IsTypeFormat}
use Rattle.fixed_bits.specs.Nearest.{IsNearest}
use Rattle.fixed_bits.specs.Order.{IsBefore, rank}
use Rattle.fixed_bits.specs.Rounded.{IsRounded}
use Rattle.fixed_bits.specs.declared.mode.ReadMode.{ReadMode}
use Rattle.fixed_bits.specs.declared.format.Policy.{Policy}
use Rattle.fixed_bits.specs.declared.format.Policy.TheVariants.{Checked, Symmetric}

-- exactly one number has the property
abbrev pub HasExactlyOne : (ℕ → Type 0) → Type 0
HasExactlyOne P = (q : ℕ) × P q × ((p : ℕ) → P p → p ≡ q)

abbrev pub NearestIsTheOne : Type 0
NearestIsTheOne = (num den : ℕ) → 0 < den → HasExactlyOne (IsNearest num den)

abbrev pub RoundedIsTheOne : Type 0
RoundedIsTheOne = (mode : ReadMode) (negative : Bool) (num den : ℕ) → 0 < den
    → HasExactlyOne (IsRounded mode negative num den)

-- equal fractions, which have equal cross products, round alike
abbrev pub EqualFractionsRoundAlike : Type 0
EqualFractionsRoundAlike = (mode : ReadMode) (negative : Bool) (n d n' d' q : ℕ) → 0 < d → 0 < d' → n * d' ≡ n' * d
    → IsRounded mode negative n d q → IsRounded mode negative n' d' q

-- every number is either in the range or out of it, never both
abbrev pub RangeIsDecided : Type 0
RangeIsDecided = (s : Bool) (n : ℕ) (v : ℤ)
    → (IsInRange s n v ⊎ IsOutOfRange s n v) × (IsOutOfRange s n v → ¬ IsInRange s n v)

-- every number is either in a policy's range or out of it, never both
abbrev pub PolicyRangeIsDecided : Type 0
PolicyRangeIsDecided = (p : Policy) (s : Bool) (n : ℕ) (v : ℤ)
    → (IsInRangeBy p s n v ⊎ IsOutOfRangeBy p s n v) × (IsOutOfRangeBy p s n v → ¬ IsInRangeBy p s n v)

-- the ends of a range of at most 64 bits fit a 64-bit type, signed or unsigned
abbrev pub EndsAreWide : Type 0
EndsAreWide = (s : Bool) (n : ℕ) → n ≤ 64 → IsWide (lowest s n) × IsWide (greatest s n)

-- a policy maps each number in its range to itself; its range is the format's, unless it is Symmetric
abbrev pub ImagesAgree : Type 0
ImagesAgree = (p : Policy) (s : Bool) (n : ℕ) (v c : ℤ) → IsWidth n → IsInRangeBy p s n v → IsImage p s n v c ↔ (c ≡ v)

-- a number out of range has no image under Checked
abbrev pub CheckedHasNone : Type 0
CheckedHasNone = (s : Bool) (n : ℕ) (v c : ℤ) → IsOutOfRange s n v → ¬ IsImage Checked s n v c

-- a number has at most one image
abbrev pub ImageIsTheOne : Type 0
ImageIsTheOne = (p : Policy) (s : Bool) (n : ℕ) (v c d : ℤ) → IsWidth n → IsImage p s n v c → IsImage p s n v d
    → c ≡ d

abbrev pub ImageIsInRange : Type 0
ImageIsInRange = (p : Policy) (s : Bool) (n : ℕ) (v c : ℤ) → IsImage p s n v c → IsInRange s n c × IsInRangeBy p s n c

-- in an unsigned format, Symmetric is Saturating
abbrev pub UnsignedIsSaturated : Type 0
UnsignedIsSaturated = (n : ℕ) (v c : ℤ) → IsImage Symmetric false n v c ↔ IsSaturated false n v c

-- IsDown holds of `down`, and of no other number
abbrev pub DownIsTheOne : Type 0
DownIsTheOne = (b : ℤ) (f g : ℕ) (d : ℤ) → IsDown b f g d ↔ (d ≡ down b f g)

abbrev pub DownKeepsOrder : Type 0
DownKeepsOrder = (b c : ℤ) (f g : ℕ) → b ≤ℤ c → down b f g ≤ℤ down c f g

-- a format comes before another exactly if its rank is lower
abbrev pub RankIsOrder : Type 0
RankIsOrder = (f g : FormatParts) → IsTypeFormat f.width f.frac → IsTypeFormat g.width g.frac
    → IsBefore f g ↔ (rank f < rank g)

-- each number below 248 is the rank of exactly one format, and every rank is below 248
abbrev pub RankIsTheOne : Type 0
RankIsTheOne = ((f : FormatParts) → IsTypeFormat f.width f.frac → rank f < 248)
    × ((n : ℕ) → n < 248 → (f : FormatParts) × IsTypeFormat f.width f.frac × (rank f ≡ n))
    × ((f g : FormatParts) → IsTypeFormat f.width f.frac → IsTypeFormat g.width g.frac → rank f ≡ rank g → f ≡ g)
