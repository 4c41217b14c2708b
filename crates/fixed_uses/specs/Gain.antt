-- A line of a configuration that sets the gain.
use Rattle.std.specs.Prelude.{◌≡◌, List, ℕ, ℤ, true, ◌++◌, codes, Result}
use Rattle.fixed_bits.specs.declared.mode.ReadMode.TheVariants.{NearestEven}
use Rattle.fixed_numeral.specs.declared.error.ParseErrorKind.{ParseErrorKind}
use Rattle.fixed_numeral.specs.declared.radix.Radix.TheVariants.{Dec}
use Rattle.fixed_point.specs.Readings.{IsPlainReading}

-- line is `gain = ` followed by text
abbrev pub SetsGain : List ℕ → List ℕ → Type 0
SetsGain line text = line ≡ codes "gain = " ++ text

-- answer is the number that text spells, with 16 of 32 bits after the point, or the cause of its refusal
abbrev pub IsGain : List ℕ → Result ℤ ParseErrorKind → Type 0
IsGain text answer = IsPlainReading (λ x. x) NearestEven Dec text 16 true 32 answer
