-- The statements of this crate's laws.
use Rattle.std.specs.Prelude.{◌≡◌, ℕ, ℤ, List}
use Rattle.fixed_bits.specs.Formats.{FormatParts, IsFormat}
use Rattle.fixed_bits.specs.Ranges.{IsInRange}
use Rattle.fixed_numeral.specs.declared.radix.Radix.{Radix}
use Rattle.fixed_numeral.specs.declared.radix.Radix.TheVariants.{Dec, Hex as Sixteen}
use Rattle.fixed_show.specs.WordText.{IsWord}
use Rattle.fixed_command.specs.Convert.{AreFormats}
use Rattle.fixed_command.specs.Outcome.{IsOutcome}
use Rattle.fixed_command.specs.Printed.{printed}
use Rattle.fixed_command.specs.declared.convert.Settings.{Settings}
use Rattle.fixed_command.specs.declared.outcome.Outcome.{Outcome}
use Rattle.fixed_command.specs.declared.print.Print.TheVariants.{Bits, Hex, Readmemh}

-- bits of a format, as printed, are a word of the format for those bits: in decimal, for radix 10; in hexadecimal after
-- `0x`, for every radix, and without `0x`, for radix 16
pub record PrintedIsWord (f : FormatParts) (bits : ℤ) (answer text : List ℕ) : Type 0 where
  pub decimal : IsWord Dec f (printed Bits f answer text bits) bits
  pub hexadecimal : (bare : Radix) → IsWord bare f (printed Hex f answer text bits) bits
  pub bare : IsWord Sixteen f (printed Readmemh f answer text bits) bits

abbrev pub PrintedBitsAreWords : Type 0
PrintedBitsAreWords = (f : FormatParts) (bits : ℤ) (answer text : List ℕ) → IsFormat f.width f.frac
    → IsInRange f.signed f.width bits → PrintedIsWord f bits answer text

-- a numeral has at most one outcome
abbrev pub OutcomeIsTheOne : Type 0
OutcomeIsTheOne = (s : Settings) (numeral : List ℕ) (a b : Outcome) → AreFormats s → IsOutcome a s numeral
    → IsOutcome b s numeral → a ≡ b
