-- A lost fraction rounds like its count of quarters.
use Rattle.std.proofs.Common.{◌≡◌, ℕ, ◌+◌, ◌*◌, ◌%◌, ◌<◌, ◌≤◌, false, arith, ⊎_elim}
use Rattle.std.proofs.lemmas.Bool.{cases_lt}
use Rattle.fixed_bits.specs.declared.mode.ReadMode.{ReadMode}
use Rattle.fixed_bits.specs.declared.mode.ReadMode.TheVariants.{NearestEven, TowardsZero, Floor, Ceil}
use Rattle.fixed_bits.specs.declared.mode.ReadMode.TheVariants.{NearestAway, NearestZero, NearestUp, NearestDown, AwayFromZero}
use Rattle.fixed_bits.specs.declared.rounding.LostFraction.{LostFraction}
use Rattle.fixed_bits.specs.declared.rounding.LostFraction.TheVariants.{Zero, LessThanHalf, Half, MoreThanHalf}
use Rattle.fixed_bits.specs.LostFractions.{IsLostFraction, quarters}
use Rattle.fixed_bits.specs.Nearest.{IsNearest}
use Rattle.fixed_bits.specs.Rounded.{IsRounded, IsNotAbove, IsNotBelow, IsNearestGreater, IsNearestLesser}
use Rattle.fixed_bits.proofs.NearestLemmas.{band, nearest_from_band}
use Rattle.fixed_bits.proofs.RoundedLemmas.{greater_band, greater_from_band, lesser_band, lesser_from_band}

-- s / den compares with zero and with a half as r quarters do
pub record IsLike (s den r : ℕ) : Type 0 where
  pub quarter : r < 4
  pub nothing : r ≡ 0 → s ≡ 0
  pub something : 0 < r → 0 < s
  pub below_half : r < 2 → 2 * s < den
  pub at_most_half : r ≤ 2 → 2 * s ≤ den
  pub half : 2 * s ≡ den → r ≡ 2
  pub at_least_half : 2 ≤ r → den ≤ 2 * s
  pub above_half : 2 < r → den < 2 * s
  pub below_one : s < den

like : (lost : LostFraction) (s den : ℕ) → 0 < den → IsLostFraction lost s den → IsLike s den (quarters lost)
like Zero s den some h = record {
  quarter = omega arith;
  nothing = λ e. h;
  something = λ l. absurd (omega arith);
  below_half = λ l. omega arith;
  at_most_half = λ l. omega arith;
  half = λ e. absurd (omega arith);
  at_least_half = λ l. absurd (omega arith);
  above_half = λ l. absurd (omega arith);
  below_one = omega arith;
}
like LessThanHalf s den some h = record {
  quarter = omega arith;
  nothing = λ e. absurd (omega arith);
  something = λ l. h.0;
  below_half = λ l. h.1;
  at_most_half = λ l. omega (arith, h.1);
  half = λ e. absurd (omega (arith, h.1));
  at_least_half = λ l. absurd (omega arith);
  above_half = λ l. absurd (omega arith);
  below_one = omega (arith, h.1);
}
like Half s den some h = record {
  quarter = omega arith;
  nothing = λ e. absurd (omega arith);
  something = λ l. omega arith;
  below_half = λ l. absurd (omega arith);
  at_most_half = λ l. omega arith;
  half = λ e. omega arith;
  at_least_half = λ l. omega arith;
  above_half = λ l. absurd (omega arith);
  below_one = omega arith;
}
like MoreThanHalf s den some h = record {
  quarter = omega arith;
  nothing = λ e. absurd (omega arith);
  something = λ l. omega (arith, h.0);
  below_half = λ l. absurd (omega arith);
  at_most_half = λ l. absurd (omega arith);
  half = λ e. absurd (omega (arith, h.0));
  at_least_half = λ l. omega (arith, h.0);
  above_half = λ l. h.0;
  below_one = h.1;
}

module _ (q s den r : ℕ) (h : IsLike s den r) where
  not_above_like : (inc : ℕ) → IsNotAbove (q * 4 + r) 4 (q + inc) → IsNotAbove (q * den + s) den (q + inc)
  not_above_like inc x =
      let few = h.quarter in let small = h.below_one in
      let none : inc ≡ 0 = omega (arith, x.at_most) in
      rw none (record { at_most = omega arith; next = omega arith })

  not_below_like : (inc : ℕ) → IsNotBelow (q * 4 + r) 4 (q + inc) → IsNotBelow (q * den + s) den (q + inc)
  not_below_like inc x = ⊎_elim
      (λ (l : inc < 1).
      let none : inc ≡ 0 = omega arith in
      let zero : s ≡ 0 = h.nothing (omega (arith, x.at_least)) in
      rw none (record { at_least = omega arith; before = omega (arith, h.below_one) }))
      (λ (l : 1 ≤ inc).
      let one : inc ≡ 1 = omega (arith, x.before, h.quarter) in
      let more : 0 < s = h.something (omega (arith, x.before)) in
      let small = h.below_one in
      rw one (record { at_least = omega arith; before = omega arith }))
      (cases_lt inc 1)

  greater_like : (inc : ℕ) → IsNearestGreater (q * 4 + r) 4 (q + inc) → IsNearestGreater (q * den + s) den (q + inc)
  greater_like inc x =
      let b = greater_band (q * 4 + r) 4 (q + inc) (omega arith) x in let small = h.below_one in ⊎_elim
      (λ (l : inc < 1).
      let none : inc ≡ 0 = omega arith in
      let few : 2 * s < den = h.below_half (omega (arith, b.hi)) in
      rw none (greater_from_band _ _ _ (record { lo = omega arith; hi = omega arith })))
      (λ (l : 1 ≤ inc).
      let one : inc ≡ 1 = omega (arith, b.lo, h.quarter) in
      let most : den ≤ 2 * s = h.at_least_half (omega (arith, b.lo)) in
      rw one (greater_from_band _ _ _ (record { lo = omega arith; hi = omega arith })))
      (cases_lt inc 1)

  lesser_like : (inc : ℕ) → IsNearestLesser (q * 4 + r) 4 (q + inc) → IsNearestLesser (q * den + s) den (q + inc)
  lesser_like inc x =
      let b = lesser_band (q * 4 + r) 4 (q + inc) (omega arith) x in let small = h.below_one in ⊎_elim
      (λ (l : inc < 1).
      let none : inc ≡ 0 = omega arith in
      let few : 2 * s ≤ den = h.at_most_half (omega (arith, b.hi)) in
      rw none (lesser_from_band _ _ _ (record { lo = omega arith; hi = omega arith })))
      (λ (l : 1 ≤ inc).
      let one : inc ≡ 1 = omega (arith, b.lo, h.quarter) in
      let most : den < 2 * s = h.above_half (omega (arith, b.lo)) in
      rw one (lesser_from_band _ _ _ (record { lo = omega arith; hi = omega arith })))
      (cases_lt inc 1)

  nearest_like : (inc : ℕ) → IsNearest (q * 4 + r) 4 (q + inc) → IsNearest (q * den + s) den (q + inc)
  nearest_like inc x =
      let b = band (q * 4 + r) 4 (q + inc) x in let small = h.below_one in ⊎_elim
      (λ (l : inc < 1).
      let none : inc ≡ 0 = omega arith in
      let few : 2 * s ≤ den = h.at_most_half (omega (arith, b.hi)) in
      let even : 2 * s ≡ den → (q + 0) % 2 ≡ 0 = λ e. (let two = h.half e in let up : (q + inc) % 2 ≡ 0 = b.up (omega arith) in omega arith) in
      rw none (nearest_from_band _ _ _ (record { lo = omega arith; hi = omega arith; up = λ e. even (omega arith); down = λ e. even (omega arith) })))
      (λ (l : 1 ≤ inc).
      let one : inc ≡ 1 = omega (arith, b.lo, h.quarter) in
      let most : den ≤ 2 * s = h.at_least_half (omega (arith, b.lo)) in
      let even : 2 * s ≡ den → (q + 1) % 2 ≡ 0 = λ e. (let two = h.half e in rw one at (b.down (omega arith))) in
      rw one (nearest_from_band _ _ _ (record { lo = omega arith; hi = omega arith; up = λ e. even (omega arith); down = λ e. even (omega arith) })))
      (cases_lt inc 1)

by_quarters : (mode : ReadMode) (q s den r inc : ℕ) → IsLike s den r → IsRounded mode false (q * 4 + r) 4 (q + inc) → IsRounded mode false (q * den + s) den (q + inc)
by_quarters NearestEven q s den r inc h = nearest_like q s den r h inc
by_quarters NearestAway q s den r inc h = greater_like q s den r h inc
by_quarters NearestZero q s den r inc h = lesser_like q s den r h inc
by_quarters NearestUp q s den r inc h = greater_like q s den r h inc
by_quarters NearestDown q s den r inc h = lesser_like q s den r h inc
by_quarters Floor q s den r inc h = not_above_like q s den r h inc
by_quarters Ceil q s den r inc h = not_below_like q s den r h inc
by_quarters TowardsZero q s den r inc h = not_above_like q s den r h inc
by_quarters AwayFromZero q s den r inc h = not_below_like q s den r h inc

pub rounds_as_quarters : (mode : ReadMode) (lost : LostFraction) (q s den inc : ℕ) → 0 < den → IsLostFraction lost s den → IsRounded mode false (q * 4 + quarters lost) 4 (q + inc) → IsRounded mode false (q * den + s) den (q + inc)
rounds_as_quarters mode lost q s den inc some h = by_quarters mode q s den (quarters lost) inc (like lost s den some h)
