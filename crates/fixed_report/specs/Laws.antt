-- The statements of this crate's laws.
use Rattle.std.specs.Prelude.{◌≡◌, ℕ, Bool, List, true}
use Rattle.fixed_bits.specs.Formats.{FormatParts}
use Rattle.fixed_bits.specs.declared.format.Policy.TheVariants.{Checked}
use Rattle.fixed_bits.specs.declared.mode.ReadMode.{ReadMode}
use Rattle.fixed_error.specs.Greatest.{Entry}
use Rattle.fixed_numeral.specs.declared.radix.Radix.{Radix}
use Rattle.fixed_report.specs.Report.{IsReported}
use Rattle.fixed_show.specs.ShowBlock.{HasNoBits}

-- two reports agree: both are of the same numeral at the same place, or both of none
pub record AreSame (a b : Bool) (p q : ℕ) (one other : List ℕ) : Type 0 where
  pub is_some : a ≡ b
  pub place : a ≡ true → p ≡ q
  pub numeral : a ≡ true → one ≡ other

abbrev pub ReportIsTheOne : Type 0
ReportIsTheOne = (mode : ReadMode) (r : Radix) (f : FormatParts) (entries : List Entry) (a b : Bool) (p q : ℕ)
    (one other : List ℕ) → IsReported mode r f entries a p one → IsReported mode r f entries b q other
    → AreSame a b p q one other

-- the reported numeral has bits in the format
abbrev pub GreatestHasBits : Type 0
GreatestHasBits = (mode : ReadMode) (r : Radix) (f : FormatParts) (entries : List Entry) (place : ℕ)
    (numeral : List ℕ) → IsReported mode r f entries true place numeral → ¬ HasNoBits mode r numeral f Checked
