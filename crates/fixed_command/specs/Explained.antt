-- The explanation of a refused numeral or word.
use Rattle.std.specs.Prelude.{◌≡◌, ◌⊎◌, ◌==◌, ◌+◌, ◌-◌, ◌^◌, ◌<◌, ◌≤◌, ℕ, zero, suc, ℤ, List, [], ◌∷◌, ◌++◌}
use Rattle.std.specs.Prelude.{Bool, MatchOption, Option, codes, false, get_or, if◌then◌else◌, length, min, take}
use Rattle.std.specs.Fmt.{decimal}
use Rattle.std.specs.List.{list_any}
use Rattle.fixed_bits.specs.Formats.{FormatParts}
use Rattle.fixed_bits.specs.Ranges.{IsOutOfRange, IsWide, greatest, lowest}
use Rattle.fixed_bits.specs.declared.format.Policy.TheVariants.{Checked}
use Rattle.fixed_convert.specs.Rounded.{IsMovedIn}
use Rattle.fixed_numeral.specs.Numeral.{HasNumeral, Parts}
use Rattle.fixed_read.specs.Reading.{IsReadNumber}
use Rattle.fixed_respell.specs.Words.{format_text}
use Rattle.fixed_write.specs.Places.{exact_text}
use Rattle.fixed_command.specs.Convert.{IsNoSource, IsSource}
use Rattle.fixed_command.specs.Fields.{bare, field_numeral}
use Rattle.fixed_command.specs.Hints.{hint_of}
use Rattle.fixed_command.specs.Layout.{after_blanks}
use Rattle.fixed_command.specs.Limits.{longest_explanation}
use Rattle.fixed_command.specs.declared.convert.Settings.{Settings}
use Rattle.fixed_command.specs.declared.field.FieldForm.{FieldForm}
use Rattle.fixed_command.specs.declared.hint.Offers.{Offers}
use Rattle.fixed_command.specs.declared.spelling.Spelling.TheVariants.{Numeral}

-- the values that a format holds, as text
abbrev pub holds_text : FormatParts → List ℕ
holds_text f = format_text f ++ (codes " holds " ++ (exact_text 10 false (lowest f.signed f.width) f.frac
    ++ (codes " to " ++ exact_text 10 false (greatest f.signed f.width) f.frac)))

-- the number, if it has at most 64 bits
abbrev pub IsFoundIfWide : ℤ → Option ℤ → Type 0
IsFoundIfWide number found = MatchOption found (¬ IsWide number) (λ n. n ≡ number)

-- text is a number of ulps of 2^-frac, exactly, if it has at most 64 bits
abbrev pub IsReachedText : ℤ → ℕ → List ℕ → Type 0
IsReachedText number frac text = (IsWide number × (text ≡ exact_text 10 false number frac))
    ⊎ ((¬ IsWide number) × (text ≡ codes "a number of more than 64 bits"))

-- the text for a source number moved to the target: the number itself if no digits are lost, else the rounded one
abbrev pub IsMovedText : ℤ → ℕ → ℤ → ℕ → List ℕ → Type 0
IsMovedText number from moved to text = (from ≤ to → text ≡ exact_text 10 false number from)
    × (to < from → IsReachedText moved to text)

-- the numeral is rounded to a number that the source does not hold, and is refused for that
pub record IsPastSource (s : Settings) (numeral : List ℕ) (number : ℤ) : Type 0 where
  pub spelling : s.spelling ≡ Numeral
  pub checked : s.policy ≡ Checked
  pub parts : Parts
  pub has : HasNumeral s.radix numeral parts
  pub read : IsReadNumber s.mode s.radix parts s.source.frac number
  pub out : IsOutOfRange s.source.signed s.source.width number

-- the number in the source is rounded to one that the target does not hold
pub record IsPastTarget (s : Settings) (numeral : List ℕ) (number moved : ℤ) : Type 0 where
  pub saturated : Bool
  pub source : IsSource s.spelling s numeral number saturated
  pub is_moved : IsMovedIn s.target_mode number s.source.frac s.target.frac moved
  pub out : IsOutOfRange s.target.signed s.target.width moved

-- the explanation of a number that a format does not hold
abbrev pub overflow_text : List ℕ → FormatParts → List ℕ
overflow_text reached f = codes ", reached " ++ (reached ++ (codes ", " ++ holds_text f))

-- the text names the number that was reached, and the values that the format holds
pub record ExplainsOverflow (s : Settings) (numeral text : List ℕ) : Type 0 where
  pub source : (number : ℤ) → IsPastSource s numeral number → (reached : List ℕ)
      × IsReachedText number s.source.frac reached × (text ≡ overflow_text reached s.source)
  pub target : (number moved : ℤ) → IsPastTarget s numeral number moved → (reached : List ℕ)
      × IsMovedText number s.source.frac moved s.target.frac reached × (text ≡ overflow_text reached s.target)

-- an overflow has one explanation
abbrev pub OverflowIsTheOne : Type 0
OverflowIsTheOne = (s : Settings) (numeral a b : List ℕ) → ExplainsOverflow s numeral a → ExplainsOverflow s numeral b
    → ((number : ℤ) → IsPastSource s numeral number → a ≡ b)
    × ((number moved : ℤ) → IsPastTarget s numeral number moved → a ≡ b)

-- the messages of refusals for one byte, of an exponent or not
abbrev pub NamesAnExponentByte : List ℕ → Type 0
NamesAnExponentByte message = (message ≡ codes "more than one exponent found")
    ⊎ ((message ≡ codes "invalid digit found in exponent") ⊎ (message ≡ codes "exponent overflow"))

abbrev pub NamesAByte : List ℕ → Type 0
NamesAByte message = NamesAnExponentByte message ⊎ ((message ≡ codes "invalid digit found in string")
    ⊎ ((message ≡ codes "misplaced sign found in string") ⊎ ((message ≡ codes "misplaced underscore found in string")
    ⊎ (message ≡ codes "more than one point found in string"))))

-- the bytes give no number of the source, with this message
abbrev pub IsRefusedWith : List ℕ → Settings → List ℕ → Type 0
IsRefusedWith message s bytes = IsNoSource s.spelling s bytes message

-- no prefix of at most this many bytes is refused with the message
abbrev pub HasNoneUpTo : List ℕ → Settings → List ℕ → ℕ → Type 0
HasNoneUpTo message s bytes place = (n : ℕ) → 1 ≤ n → n ≤ place → ¬ IsRefusedWith message s (take n bytes)

-- the bytes up to this place, counted from 1, are the shortest prefix that is refused with the message
pub record IsInvalidPlace (message : List ℕ) (s : Settings) (bytes : List ℕ) (place : ℕ) : Type 0 where
  pub some : 1 ≤ place
  pub within : place ≤ length bytes
  pub invalid : IsRefusedWith message s (take place bytes)
  pub before : HasNoneUpTo message s bytes (place - 1)

-- that place, or 0 if no prefix is refused so
abbrev pub IsPlaceOrZero : List ℕ → Settings → List ℕ → ℕ → Type 0
IsPlaceOrZero message s bytes place = IsInvalidPlace message s bytes place
    ⊎ ((place ≡ 0) × HasNoneUpTo message s bytes (length bytes))

-- the byte at a place, and its place in a line with `before` bytes before these, up to the greatest count
abbrev pub place_text : List ℕ → ℕ → ℕ → List ℕ
place_text bytes place before = codes ", byte " ++ (decimal (min (place + before) (2 ^ 64 - 1))
    ++ (codes ", '" ++ (get_or bytes (place - 1) 0 ∷ codes "'")))

-- the text names the byte at that place, if any, and gives a hint
abbrev pub ExplainsByte : List ℕ → Offers → Settings → List ℕ → ℕ → List ℕ → Type 0
ExplainsByte message has s bytes before text = (place : ℕ) × IsPlaceOrZero message s bytes place
    × (text ≡ if place == 0 then [] else place_text bytes place before ++ hint_of has s.spelling s.radix bytes place)

-- ---- of a field
-- the place, from 1, of the nth byte that is not a thousands separator
abbrev pub place_of : List ℕ → List ℕ → ℕ → ℕ
place_of thousands [] n = 0
place_of thousands (byte ∷ bytes) zero = 0
place_of thousands (byte ∷ bytes) (suc n) = 1
    + place_of thousands bytes (if list_any (λ b. b == byte) thousands then suc n else n)

-- how many bytes of a field are blanks before its numeral
abbrev pub blanks_of : FieldForm → List ℕ → ℕ
blanks_of form field = if form.is_trimmed then length field - length (after_blanks field) else 0

-- the place in a field, from 1, of the byte at a place of its numeral
abbrev pub field_place : FieldForm → List ℕ → ℕ → ℕ
field_place form field place = blanks_of form field + place_of form.thousands.now (bare form field) place

-- a byte as it is shown in a line
abbrev pub shown_byte : ℕ → ℕ
shown_byte byte = if byte == 10 then 63 else byte

-- the byte at a place of a field, and the place
abbrev pub field_place_text : List ℕ → ℕ → List ℕ
field_place_text field place = codes ", byte " ++ (decimal place
    ++ (codes ", '" ++ (shown_byte (get_or field (place - 1) 63) ∷ codes "'")))

-- the part of a field's numeral that an explanation looks at
abbrev pub looked_at : FieldForm → List ℕ → List ℕ
looked_at form field = take longest_explanation (field_numeral form field)

-- the hint for a field whose numeral is invalid at a place, from 1: by the field's own bytes without outer blanks
abbrev pub field_hint : Offers → Settings → FieldForm → List ℕ → ℕ → List ℕ
field_hint has s form field place = hint_of has s.spelling s.radix (bare form field)
    (place_of form.thousands.now (bare form field) place)

-- the text names the first byte of a field that makes its numeral invalid, if any, and gives a hint
abbrev pub ExplainsFieldByte : List ℕ → Offers → Settings → FieldForm → List ℕ → List ℕ → Type 0
ExplainsFieldByte message has s form field text = (place : ℕ) × IsPlaceOrZero message s (looked_at form field) place
    × (text ≡ if place == 0 then [] else field_place_text field (field_place form field place)
    ++ field_hint has s form field place)

-- the byte that makes a numeral invalid, or the numeral of a field, has one explanation
pub record BytesAreTheOnes : Type 0 where
  pub numeral : (message : List ℕ) (has : Offers) (s : Settings) (bytes : List ℕ) (before : ℕ) (a b : List ℕ)
      → ExplainsByte message has s bytes before a → ExplainsByte message has s bytes before b → a ≡ b
  pub field : (message : List ℕ) (has : Offers) (s : Settings) (form : FieldForm) (field a b : List ℕ)
      → ExplainsFieldByte message has s form field a → ExplainsFieldByte message has s form field b → a ≡ b
