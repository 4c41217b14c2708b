-- A part of an ulp, rounded in a mode.
use Rattle.std.proofs.Common.{◌≡◌, ◌∙◌, ℕ, ◌+◌, ◌-◌, ◌*◌, ◌<◌, ◌≤◌, Bool, false, true, if◌then◌else◌, ⊎_elim, arith, subst}
use Rattle.std.proofs.lemmas.Bool.{cases_lt}
use Rattle.fixed_bits.proofs.Public.{rounded_close, rounded_exists, rounded_unique, rounds_as_quarters}
use Rattle.fixed_bits.specs.LostFractions.{IsLostFraction, quarters}
use Rattle.fixed_bits.specs.Rounded.{IsRounded, magnitude_mode}
use Rattle.fixed_bits.specs.declared.mode.ReadMode.{ReadMode}
use Rattle.fixed_bits.specs.declared.rounding.LostFraction.{LostFraction}
use Rattle.fixed_bits.specs.declared.rounding.LostFraction.TheVariants.{Zero, LessThanHalf}

-- ---- the mode of a magnitude by the sign of its number
pub own_mode : (mode : ReadMode) (negative : Bool) (below own : ReadMode) → below ≡ magnitude_mode mode true → own ≡ (if negative then below else mode) → own ≡ magnitude_mode mode negative
own_mode mode false below own e h = h
own_mode mode true below own e h = h ∙ e

-- ---- a rest below half a unit is rounded alike in any greater unit
module _ (mode : ReadMode) (q rest unit den r : ℕ) (below : 2 * rest < unit) (wider : unit ≤ den) (h : IsRounded mode false (q * unit + rest) unit (q + r)) where
  alike : (lost : LostFraction) → IsLostFraction lost rest unit → IsLostFraction lost rest den → IsRounded mode false (q * den + rest) den (q + r)
  alike lost at_unit at_den =
      let found = rounded_exists mode false (q * 4 + quarters lost) 4 (omega arith) in
      let close = rounded_close mode false (q * 4 + quarters lost) 4 found.0 (omega arith) found.1 in
      let place : found.0 ≡ q + (found.0 - q) = omega (arith, close.1) in
      let quarter : IsRounded mode false (q * 4 + quarters lost) 4 (q + (found.0 - q)) = subst (λ (p : ℕ). IsRounded mode false (q * 4 + quarters lost) 4 p) place found.1 in
      let there = rounds_as_quarters mode lost q rest unit (found.0 - q) (omega arith) at_unit quarter in
      let same : q + (found.0 - q) ≡ q + r = rounded_unique mode false (q * unit + rest) unit (q + (found.0 - q)) (q + r) (omega arith) there h in
      subst (λ (p : ℕ). IsRounded mode false (q * den + rest) den p) same (rounds_as_quarters mode lost q rest den (found.0 - q) (omega arith) at_den quarter)

  pub far_alike : IsRounded mode false (q * den + rest) den (q + r)
  far_alike = ⊎_elim
      (λ (l : rest < 1). let none : rest ≡ 0 = omega arith in alike Zero none none)
      (λ (l : 1 ≤ rest). let some : 0 < rest = omega arith in let less : 2 * rest < den = omega arith in alike LessThanHalf (some, below) (some, less))
      (cases_lt rest 1)
