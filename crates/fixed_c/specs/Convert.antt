-- The results of calls that convert, compare and print bits.
use Rattle.std.specs.Prelude.{◌≡◌, ◌≤◌, ℕ, ℤ, List, false, pos, negsuc}
use Rattle.std.specs.declared.cmp.Ordering.{Ordering}
use Rattle.std.specs.declared.cmp.Ordering.TheVariants.{Less, Equal, Greater}
use Rattle.fixed_bits.specs.Down.{down}
use Rattle.fixed_bits.specs.Formats.{FormatParts}
use Rattle.fixed_bits.specs.declared.format.Policy.{Policy}
use Rattle.fixed_bits.specs.declared.mode.ReadMode.{ReadMode}
use Rattle.fixed_convert.specs.Order.{order_of}
use Rattle.fixed_convert.specs.Rounded.{IsMovedIn}
use Rattle.fixed_numeral.specs.declared.error.ParseErrorKind.TheVariants.{Overflow}
use Rattle.fixed_write.specs.Places.{IsRoundedText}
use Rattle.fixed_write.specs.Texts.{IsShortestText}
use Rattle.fixed_c.specs.Arguments.{NamesFormat, NamesMode, NamesPolicy}
use Rattle.fixed_c.specs.Codes.{mode_code, policy_code}
use Rattle.fixed_c.specs.Numbers.{AreBits, AreBitsOf, IsBrought, IsNotBrought}
use Rattle.fixed_c.specs.Outcome.{ForKind, Never, Unless}
use Rattle.fixed_c.specs.declared.refusal.Refusal.{Refusal}
use Rattle.fixed_c.specs.declared.refusal.Refusal.TheVariants.{BadFormat, BadTarget, BadPolicy, BadMode, BadBits}
use Rattle.fixed_c.specs.declared.refusal.Refusal.TheVariants.{BadOtherBits, BadPlaces}

-- both formats are valid, and `bits` is the image in the target of the given bits, rounded down to its fraction length
pub record IsConverted (source target : FormatParts) (policy : ℕ) (given bits : ℤ) (flag : ℕ) : Type 0 where
  pub source_format : NamesFormat source
  pub target_format : NamesFormat target
  pub number : ℤ
  pub given_is : AreBitsOf source given number
  pub the_policy : Policy
  pub policy_is : policy ≡ policy_code the_policy
  pub brought : IsBrought target the_policy (down number source.frac target.frac) bits flag

-- the rounded bits have no image in the target
pub record IsNotConverted (source target : FormatParts) (policy : ℕ) (given : ℤ) : Type 0 where
  pub number : ℤ
  pub given_is : AreBitsOf source given number
  pub the_policy : Policy
  pub policy_is : policy ≡ policy_code the_policy
  pub out : IsNotBrought target the_policy (down number source.frac target.frac)

-- the refusal of a call that converts
abbrev pub ConvertIsRefused : FormatParts → FormatParts → ℕ → ℤ → Refusal → Type 0
ConvertIsRefused f g policy bits =
    Unless (NamesFormat f) BadFormat
    (Unless (NamesFormat g) BadTarget
    (Unless (NamesPolicy policy) BadPolicy
    (Unless (AreBits f bits) BadBits
    (ForKind (λ kind. (kind ≡ Overflow) × IsNotConverted f g policy bits)))))

-- both formats are valid, and `bits` is the image in the target of the given bits, rounded in a mode to its fraction
-- length
pub record IsConvertedIn (source target : FormatParts) (policy mode : ℕ) (given bits : ℤ) (flag : ℕ) : Type 0 where
  pub source_format : NamesFormat source
  pub target_format : NamesFormat target
  pub number : ℤ
  pub given_is : AreBitsOf source given number
  pub the_policy : Policy
  pub policy_is : policy ≡ policy_code the_policy
  pub the_mode : ReadMode
  pub mode_is : mode ≡ mode_code the_mode
  pub moved : ℤ
  pub is_moved : IsMovedIn the_mode number source.frac target.frac moved
  pub brought : IsBrought target the_policy moved bits flag

-- the rounded bits have no image in the target
pub record IsNotConvertedIn (source target : FormatParts) (policy mode : ℕ) (given : ℤ) : Type 0 where
  pub number : ℤ
  pub given_is : AreBitsOf source given number
  pub the_policy : Policy
  pub policy_is : policy ≡ policy_code the_policy
  pub the_mode : ReadMode
  pub mode_is : mode ≡ mode_code the_mode
  pub moved : ℤ
  pub is_moved : IsMovedIn the_mode number source.frac target.frac moved
  pub out : IsNotBrought target the_policy moved

-- the refusal of a call that converts in a mode
abbrev pub ConvertInIsRefused : FormatParts → FormatParts → ℕ → ℕ → ℤ → Refusal → Type 0
ConvertInIsRefused f g policy mode bits =
    Unless (NamesFormat f) BadFormat
    (Unless (NamesFormat g) BadTarget
    (Unless (NamesPolicy policy) BadPolicy
    (Unless (NamesMode mode) BadMode
    (Unless (AreBits f bits) BadBits
    (ForKind (λ kind. (kind ≡ Overflow) × IsNotConvertedIn f g policy mode bits))))))

-- -1, 0 and 1 for less, equal and greater
abbrev pub order_code : Ordering → ℤ
order_code Less = negsuc 0
order_code Equal = pos 0
order_code Greater = pos 1

-- both formats are valid, and this is the order of the values of their bits
pub record IsCompared (f g : FormatParts) (a b order : ℤ) : Type 0 where
  pub first_format : NamesFormat f
  pub second_format : NamesFormat g
  pub left : ℤ
  pub left_is : AreBitsOf f a left
  pub right : ℤ
  pub right_is : AreBitsOf g b right
  pub order_is : order ≡ order_code (order_of left f.frac right g.frac)

-- the refusal of a call that compares
abbrev pub CompareIsRefused : FormatParts → FormatParts → ℤ → ℤ → Refusal → Type 0
CompareIsRefused f g a b =
    Unless (NamesFormat f) BadFormat
    (Unless (NamesFormat g) BadTarget
    (Unless (AreBits f a) BadBits
    (Unless (AreBits g b) BadOtherBits Never)))

-- the refusal of a call that prints
abbrev pub PrintIsRefused : FormatParts → ℤ → Refusal → Type 0
PrintIsRefused f bits = Unless (NamesFormat f) BadFormat (Unless (AreBits f bits) BadBits Never)

-- the format is valid, and the text is the shortest for the bits
pub record IsPrinted (f : FormatParts) (bits : ℤ) (text : List ℕ) : Type 0 where
  pub format : NamesFormat f
  pub number : ℤ
  pub bits_are : AreBitsOf f bits number
  pub shortest : IsShortestText number f.frac text

-- the format is valid, and the text is the bits with this many decimal places, at most 64, rounded in the mode of a
-- code
pub record IsPrintedTo (f : FormatParts) (bits : ℤ) (places mode : ℕ) (text : List ℕ) : Type 0 where
  pub format : NamesFormat f
  pub number : ℤ
  pub bits_are : AreBitsOf f bits number
  pub few : places ≤ 64
  pub the_mode : ReadMode
  pub mode_is : mode ≡ mode_code the_mode
  pub rounded : IsRoundedText the_mode 10 false places number f.frac text

-- the refusal of a call that prints to places
abbrev pub PlacesIsRefused : FormatParts → ℤ → ℕ → ℕ → Refusal → Type 0
PlacesIsRefused f bits places mode = Unless (NamesFormat f) BadFormat
    (Unless (NamesMode mode) BadMode (Unless (AreBits f bits) BadBits (Unless (places ≤ 64) BadPlaces Never)))
