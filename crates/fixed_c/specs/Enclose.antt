-- The result of a call that encloses the value of a text.
use Rattle.std.specs.Prelude.{◌≡◌, ℕ, ℤ, List}
use Rattle.fixed_bits.specs.Formats.{FormatParts}
use Rattle.fixed_numeral.specs.Numeral.{base}
use Rattle.fixed_numeral.specs.declared.radix.Radix.{Radix}
use Rattle.fixed_enclose.specs.Enclosure.{IsEnclosed, IsRefusal}
use Rattle.fixed_c.specs.Arguments.{NamesFormat, NamesRadix}
use Rattle.fixed_c.specs.Numbers.{has_bits}
use Rattle.fixed_c.specs.Outcome.{ForKind, Unless}
use Rattle.fixed_c.specs.declared.refusal.Refusal.{Refusal}
use Rattle.fixed_c.specs.declared.refusal.Refusal.TheVariants.{BadRadix, BadFormat}

-- the format is valid, and `lo` and `hi` are the bits of its two numbers that enclose the value of the text
pub record IsEnclosedBy (text : List ℕ) (radix : ℕ) (f : FormatParts) (lo hi : ℤ) : Type 0 where
  pub format : NamesFormat f
  pub the_radix : Radix
  pub radix_is : radix ≡ base the_radix
  pub low : ℤ
  pub high : ℤ
  pub encloses : IsEnclosed the_radix text f low high
  pub low_bits : has_bits f.signed lo low
  pub high_bits : has_bits f.signed hi high

-- the refusal of a call with these arguments
abbrev pub EncloseIsRefused : List ℕ → ℕ → FormatParts → Refusal → Type 0
EncloseIsRefused text radix f =
    Unless (NamesRadix radix) BadRadix
    (Unless (NamesFormat f) BadFormat
    (ForKind (λ kind. (r : Radix) × (radix ≡ base r) × IsRefusal r text f kind)))
