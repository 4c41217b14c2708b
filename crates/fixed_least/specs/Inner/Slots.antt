-- For each format, the first place whose numeral it does not hold, in slots: 65 for each of the eight pairs of a width
-- and a sign rule.
use Rattle.std.specs.Prelude.{◌≡◌, ◌⊎◌, ◌↔◌, ◌+◌, ◌*◌, ◌%◌, ◌<◌, ◌≤◌, ◌==◌, ℕ, Bool, true, false, List, Option, get_or}
use Rattle.std.specs.Prelude.{if◌then◌else◌, nat_lt}
use Rattle.fixed_bits.specs.Formats.{FormatParts, IsTypeFormat}
use Rattle.fixed_least.specs.Inner.Valued.{HasValue}
use Rattle.fixed_least.specs.declared.exact.Exact.{Exact}

-- the width and the sign rule of a kind; the kinds are in the order of formats
abbrev pub kind_width : ℕ → ℕ
kind_width j = if nat_lt j 2 then 8 else (if nat_lt j 4 then 16 else (if nat_lt j 6 then 32 else 64))

abbrev pub kind_signed : ℕ → Bool
kind_signed j = j % 2 == 1

-- the kind of a width and a sign rule
abbrev pub sign_bit : Bool → ℕ
sign_bit true = 1
sign_bit false = 0

abbrev pub kind_of : Bool → ℕ → ℕ
kind_of s n = (if n == 8 then 0 else (if n == 16 then 2 else (if n == 32 then 4 else 6))) + sign_bit s

-- the format of a kind with this fraction length
abbrev pub kind_format : ℕ → ℕ → FormatParts
kind_format j k = record { signed = kind_signed j; width = kind_width j; frac = k }

-- the slot of a kind and a fraction length, and of a format
abbrev pub slot : ℕ → ℕ → ℕ
slot j k = j * 65 + k

abbrev pub slot_of : FormatParts → ℕ
slot_of f = slot (kind_of f.signed f.width) f.frac

-- the formats of a kind without a place are those with a fraction length from `low` on, below `high`
abbrev pub IsLiving : ℕ → ℕ → ℕ → List ℕ → Type 0
IsLiving j low high slots = (k : ℕ) → k ≤ kind_width j → ((low ≤ k) × (k < high)) ↔ (get_or slots (slot j k) 0 ≡ 0)

-- the formats without a place are such an interval in each kind
pub record AreLiving (slots lows highs : List ℕ) : Type 0 where
  pub order : (j : ℕ) → j < 8 → get_or lows j 0 ≤ get_or highs j 0
  pub most : (j : ℕ) → j < 8 → get_or highs j 0 ≤ kind_width j + 1
  pub living : (j : ℕ) → j < 8 → IsLiving j (get_or lows j 0) (get_or highs j 0) slots

-- a format's slot after the value at a place: the old place if there is one, else none if the format has the value,
-- else this place
abbrev pub IsNoted : FormatParts → Option Exact → ℕ → ℕ → ℕ → Type 0
IsNoted f value place old new = ((old ≡ 0 → ⊥) × (new ≡ old))
    ⊎ (((old ≡ 0) × HasValue f value × (new ≡ 0))
    ⊎ ((old ≡ 0) × (HasValue f value → ⊥) × (new ≡ place)))

-- the slots of all formats after the value at a place
abbrev pub AreNoted : Option Exact → ℕ → List ℕ → List ℕ → Type 0
AreNoted value place old new = (f : FormatParts) → IsTypeFormat f.width f.frac
    → IsNoted f value place (get_or old (slot_of f) 0) (get_or new (slot_of f) 0)
