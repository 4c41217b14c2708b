-- Register words: the bits of a register, as a person writes them.
use Rattle.std.specs.Prelude.{◌≡◌, ◌⊎◌, ℕ, ◌<◌, ◌≤◌, ◌^◌, ◌==◌, ◌||◌, if◌then◌else◌, is_some, Bool, true, false, List}
use Rattle.std.specs.Prelude.{[], ◌∷◌, length, drop, Option, Some, None, ℤ, pos}
use Rattle.std.specs.Str.Parse.{AllDigits, digits_value}
use Rattle.fixed_bits.specs.Formats.{FormatParts}
use Rattle.fixed_bits.specs.Images.{IsWrapped}
use Rattle.fixed_bits.specs.Numbers.{with_sign}
use Rattle.fixed_bits.specs.Ranges.{IsInRange, IsOutOfRange}
use Rattle.fixed_numeral.specs.declared.radix.Radix.{Radix}
use Rattle.fixed_numeral.specs.declared.radix.Radix.TheVariants.{Bin, Oct, Dec, Hex}
use Rattle.fixed_numeral.specs.Numeral.{base, is_sign, minus}
use Rattle.fixed_numeral.specs.Literal.{underscore, without_underscores}
use Rattle.fixed_show.specs.declared.words.WordFault.{WordFault}
use Rattle.fixed_show.specs.declared.words.WordFault.TheVariants.{MisplacedUnderscore, InvalidDigit, NoDigits}
use Rattle.fixed_show.specs.declared.words.WordFault.TheVariants.{TooWide, OutOfRange}

-- ---- the prefix: '0' and a letter in either case
-- 'b' names radix 2, unless it is itself a digit
abbrev pub binary_letter : Radix → Option Radix
binary_letter Bin = Some Bin
binary_letter Oct = Some Bin
binary_letter Dec = Some Bin
binary_letter Hex = None

-- the radix that a letter names, if digits without a prefix are in the radix `bare`
abbrev pub letter_radix : Radix → ℕ → Option Radix
letter_radix bare b = if (b == 120) || (b == 88) then Some Hex else (if (b == 111) || (b == 79) then Some Oct else
    (if (b == 98) || (b == 66) then binary_letter bare else None))

abbrev pub prefix_radix : Radix → List ℕ → Option Radix
prefix_radix bare [] = None
prefix_radix bare (a ∷ []) = None
prefix_radix bare (a ∷ b ∷ bs) = if a == 48 then letter_radix bare b else None

-- the radix of the digits
abbrev pub radix_or : Radix → Option Radix → Radix
radix_or bare None = bare
radix_or bare (Some r) = r

abbrev pub word_radix : Radix → List ℕ → Radix
word_radix bare text = radix_or bare (prefix_radix bare text)

-- the bytes after a prefix
abbrev pub after_prefix : Radix → List ℕ → List ℕ
after_prefix bare text = if is_some (prefix_radix bare text) then drop 2 text else text

-- ---- the digits
-- the digits without underscores
abbrev pub word_digits : Radix → List ℕ → List ℕ
word_digits bare text = without_underscores (after_prefix bare text)

-- whether an underscore comes first, without a prefix before it
abbrev pub begins_with_underscore : List ℕ → Bool
begins_with_underscore [] = false
begins_with_underscore (b ∷ bs) = b == underscore

-- the text is digits, with an optional prefix and with underscores only after a prefix or a digit, and spells `n`
pub record IsWordText (bare : Radix) (text : List ℕ) (n : ℕ) : Type 0 where
  pub first : begins_with_underscore text ≡ false
  pub digits : AllDigits (base (word_radix bare text)) (word_digits bare text)
  pub some : 0 < length (word_digits bare text)
  pub number : n ≡ digits_value (base (word_radix bare text)) (word_digits bare text)

-- ---- the sign
abbrev pub has_sign : List ℕ → Bool
has_sign [] = false
has_sign (b ∷ bs) = is_sign b

abbrev pub has_minus : List ℕ → Bool
has_minus [] = false
has_minus (b ∷ bs) = b == minus

-- the bytes after a sign
abbrev pub without_sign : List ℕ → List ℕ
without_sign [] = []
without_sign (b ∷ bs) = if is_sign b then bs else b ∷ bs

-- ---- words of a format
-- the text has no sign and spells a number of the format's width, which is `v` in two's complement
pub record IsPlainWord (bare : Radix) (f : FormatParts) (text : List ℕ) (v : ℤ) : Type 0 where
  pub plain : has_sign text ≡ false
  pub word : ℕ
  pub spells : IsWordText bare text word
  pub fits : word < 2 ^ f.width
  pub is : IsWrapped f.signed f.width (pos word) v

-- the text has a sign and, with it, spells the number `v` of the format
pub record IsSignedWord (bare : Radix) (f : FormatParts) (text : List ℕ) (v : ℤ) : Type 0 where
  pub signed : has_sign text ≡ true
  pub size : ℕ
  pub spells : IsWordText bare (without_sign text) size
  pub is : v ≡ with_sign (has_minus text) size
  pub in_range : IsInRange f.signed f.width v

abbrev pub IsWord : Radix → FormatParts → List ℕ → ℤ → Type 0
IsWord bare f text v = IsPlainWord bare f text v ⊎ IsSignedWord bare f text v

-- the text has no sign and spells a number of more bits than the format
pub record IsTooWide (bare : Radix) (f : FormatParts) (text : List ℕ) : Type 0 where
  pub plain : has_sign text ≡ false
  pub number : ℕ
  pub spells : IsWordText bare text number
  pub wide : 2 ^ f.width ≤ number

-- the text has a sign and, with it, spells a number out of the range of the format
pub record IsOutside (bare : Radix) (f : FormatParts) (text : List ℕ) : Type 0 where
  pub signed : has_sign text ≡ true
  pub size : ℕ
  pub spells : IsWordText bare (without_sign text) size
  pub out : IsOutOfRange f.signed f.width (with_sign (has_minus text) size)

-- `fault` says why the text is not a word of the format: the first of these causes that applies
abbrev pub HasWordFault : Radix → FormatParts → List ℕ → WordFault → Type 0
HasWordFault bare f text MisplacedUnderscore = begins_with_underscore (without_sign text) ≡ true
HasWordFault bare f text InvalidDigit = (begins_with_underscore (without_sign text) ≡ false)
    × (¬ AllDigits (base (word_radix bare (without_sign text))) (word_digits bare (without_sign text)))
HasWordFault bare f text NoDigits = (begins_with_underscore (without_sign text) ≡ false)
    × (word_digits bare (without_sign text) ≡ [])
HasWordFault bare f text TooWide = IsTooWide bare f text
HasWordFault bare f text OutOfRange = IsOutside bare f text
