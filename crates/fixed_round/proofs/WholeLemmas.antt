-- The floor, the distance of a value from it, and the choice between the two whole numbers around a value.
use Rattle.std.proofs.Common.{◌≡◌, ℕ, ◌+◌, ◌*◌, ◌^◌, ◌≤◌, ◌<◌, ℤ, pos, ◌+ℤ◌, ◌*ℤ◌, ◌≤ℤ◌, arith, refl, ◌∙◌, true, false}
use Rattle.std.specs.Prelude.{◌<ℤ◌, ◌-ℤ◌}
use Rattle.std.specs.Int.{is_negative}
use Rattle.std.proofs.lemmas.Int.{ints}
use Rattle.fixed_bits.specs.Down.{IsDown, down}
use Rattle.fixed_bits.proofs.Integers.{next_times}
use Rattle.fixed_round.specs.Whole.{is_up, whole, whole_bits, whole_distance}
use Rattle.fixed_round.specs.declared.rounding.Rounding.{Rounding}

pub floor_at_most : (b w : ℤ) (f : ℕ) → IsDown b f 0 w → (w *ℤ pos (2 ^ f)) ≤ℤ b
floor_at_most b w f h = omega (arith, ints, h.at_most)

pub floor_next : (b w : ℤ) (f : ℕ) → IsDown b f 0 w → b <ℤ ((w *ℤ pos (2 ^ f)) +ℤ pos (2 ^ f))
floor_next b w f h = omega (arith, ints, h.above, next_times w (2 ^ f))

pub distance_below : (b w : ℤ) (f : ℕ) → IsDown b f 0 w → whole_distance b f w < 2 ^ f
distance_below b w f h = omega (arith, ints, floor_at_most b w f h, floor_next b w f h)

-- the result for each case of the test
pub up_is : (r : Rounding) (b : ℤ) (f : ℕ) (w : ℤ) → w ≡ down b f 0 → is_up r (is_negative b) w (whole_distance b f w) (2 ^ f) ≡ true → (w +ℤ pos 1) *ℤ pos (2 ^ f) ≡ whole_bits r b f
unfolding whole_bits whole
up_is r b f w e t =
    let t' = rw e at t in
    rw (e, t') refl

pub low_is : (r : Rounding) (b : ℤ) (f : ℕ) (w : ℤ) → w ≡ down b f 0 → is_up r (is_negative b) w (whole_distance b f w) (2 ^ f) ≡ false → w *ℤ pos (2 ^ f) ≡ whole_bits r b f
unfolding whole_bits whole
low_is r b f w e t =
    let t' = rw e at t in
    let z : down b f 0 +ℤ pos 0 ≡ down b f 0 = omega (arith, ints) in
    rw (e, t', z) refl
