-- What is known of the lines so far.
use Rattle.std.specs.Prelude.{◌≡◌, ◌↔◌, ◌≤◌, ℕ, true, false, IsTrue, List, length, Option, Some, None}
use Rattle.fixed_least.specs.Holding.{AllNumerals}
use Rattle.fixed_least.specs.Least.{IsNoNumeral}
use Rattle.fixed_least.specs.declared.least.LeastFault.{LeastFault}
use Rattle.fixed_fit.specs.Fitting.{HasBelowZero}
use Rattle.fixed_fit.specs.Inner.Lengths.{AreLengths, IsRoomOf}
use Rattle.fixed_fit.specs.declared.progress.Progress.{Progress}

-- for lines that are numerals: the lengths that are left of both sign rules, and whether a line is below zero
pub record AreFitted (n : ℕ) (lines : List (List ℕ)) (p : Progress) : Type 0 where
  pub numerals : AllNumerals p.radix lines
  pub plain : AreLengths p.fractions p.radix lines p.plain
  pub signed : AreLengths p.fractions p.radix lines p.signed
  pub below : IsTrue p.is_below ↔ HasBelowZero p.radix lines

-- without a fault, `p` is what is known of the lines; with one, it is that of the first line that is not a numeral
abbrev pub IsKnown : ℕ → List (List ℕ) → Progress → Option LeastFault → Type 0
IsKnown n lines p None = AreFitted n lines p
IsKnown n lines p (Some fault) = IsNoNumeral p.radix lines fault

-- `p` is what is known of the lines
pub record HasProgress (n : ℕ) (lines : List (List ℕ)) (p : Progress) : Type 0 where
  pub count : p.lines ≡ length lines
  pub plain_kind : p.plain.kind ≡ record { signed = false; width = n; frac = 0 }
  pub signed_kind : p.signed.kind ≡ record { signed = true; width = n; frac = 0 }
  pub plain_most : p.plain.count ≤ 65
  pub signed_most : p.signed.count ≤ 65
  pub plain_room : IsRoomOf p.room p.plain
  pub signed_room : IsRoomOf p.room p.signed
  pub known : IsKnown n lines p p.fault

-- `p` is what is known of some lines
abbrev pub HasSomeProgress : Progress → Type 0
HasSomeProgress p = (n : ℕ) × (lines : List (List ℕ)) × HasProgress n lines p
