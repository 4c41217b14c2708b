-- The amount on a line.
use Rattle.std.specs.Prelude.{◌≡◌, ◌⊎◌, ◌↔◌, ℕ, ℤ, Bool, true, false, IsTrue, List}
use Rattle.fixed_bits.specs.Formats.{FormatParts}
use Rattle.fixed_bits.specs.Images.{IsImage, IsOutOfRangeBy}
use Rattle.fixed_bits.specs.Ranges.{IsOutOfRange}
use Rattle.fixed_bits.specs.declared.format.Policy.{Policy}
use Rattle.fixed_bits.specs.declared.format.Policy.TheVariants.{Checked}
use Rattle.fixed_bits.specs.declared.mode.ReadMode.{ReadMode}
use Rattle.fixed_decimal.specs.Decimals.{IsReadDecimal}
use Rattle.fixed_numeral.specs.Cause.{HasCause}
use Rattle.fixed_numeral.specs.Messages.{message_of}
use Rattle.fixed_numeral.specs.Numeral.{HasNumeral, Parts}
use Rattle.fixed_numeral.specs.declared.error.ParseErrorKind.{ParseErrorKind}
use Rattle.fixed_numeral.specs.declared.error.ParseErrorKind.TheVariants.{Overflow}
use Rattle.fixed_numeral.specs.declared.radix.Radix.TheVariants.{Dec}
use Rattle.fixed_show.specs.BitsBlock.{fault_message}
use Rattle.fixed_show.specs.WordText.{HasWordFault, IsWord}
use Rattle.fixed_show.specs.declared.words.WordFault.{WordFault}
use Rattle.fixed_amounts.specs.declared.settings.AmountSettings.{AmountSettings}
use Rattle.fixed_amounts.specs.declared.settings.AmountSpelling.{AmountSpelling}
use Rattle.fixed_amounts.specs.declared.settings.AmountSpelling.TheVariants.{Numeral, Units}

-- the units of every decimal format are numbers of this format: 64 bits with a sign
abbrev pub words : FormatParts
words = record { signed = true; width = 64; frac = 0 }

-- ---- a decimal
-- the bytes are a decimal numeral, `units` are the image of its rounded number, and `overflowed` says whether that
-- number is out of the range that the policy leaves
pub record IsReadAs (mode : ReadMode) (bytes : List ℕ) (places : ℕ) (policy : Policy) (units : ℤ)
    (overflowed : Bool) : Type 0 where
  pub parts : Parts
  pub numeral : HasNumeral Dec bytes parts
  pub number : ℤ
  pub read : IsReadDecimal mode parts places number
  pub image : IsImage policy true 64 number units
  pub flag : IsTrue overflowed ↔ IsOutOfRangeBy policy true 64 number

-- the bytes are a decimal numeral whose rounded number is out of range
pub record IsReadOut (mode : ReadMode) (bytes : List ℕ) (places : ℕ) : Type 0 where
  pub parts : Parts
  pub numeral : HasNumeral Dec bytes parts
  pub number : ℤ
  pub read : IsReadDecimal mode parts places number
  pub out : IsOutOfRange true 64 number

-- `kind` says why there are no units: the bytes are not a decimal numeral or, under `Checked`, the rounded number is
-- out of range
abbrev pub IsUnread : ReadMode → List ℕ → ℕ → Policy → ParseErrorKind → Type 0
IsUnread mode bytes places policy kind = HasCause Dec bytes kind
    ⊎ ((kind ≡ Overflow) × (policy ≡ Checked) × IsReadOut mode bytes places)

-- ---- a line
-- the line has these units, and `overflowed` says whether its number was out of range
abbrev pub IsAmount : AmountSpelling → AmountSettings → List ℕ → ℤ → Bool → Type 0
IsAmount Numeral s bytes units overflowed = IsReadAs s.mode bytes s.format s.policy units overflowed
IsAmount Units s bytes units overflowed = IsWord Dec words bytes units × (overflowed ≡ false)

-- the line has no units, and this message says why
abbrev pub IsNoAmount : AmountSpelling → AmountSettings → List ℕ → List ℕ → Type 0
IsNoAmount Numeral s bytes message = (kind : ParseErrorKind) × IsUnread s.mode bytes s.format s.policy kind
    × (message ≡ message_of kind)
IsNoAmount Units s bytes message = (fault : WordFault) × HasWordFault Dec words bytes fault
    × (message ≡ fault_message fault)
