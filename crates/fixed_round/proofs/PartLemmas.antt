-- The whole part and the number rounded towards zero fit.
use Rattle.std.proofs.Common.{◌≡◌, ℕ, zero, suc, ◌+◌, ◌-◌, ◌*◌, ◌/◌, ◌%◌, ◌^◌, ◌≤◌, ◌<◌, ◌==◌, ℤ, pos, negsuc, neg_ℤ, ◌+ℤ◌, ◌*ℤ◌, ◌≤ℤ◌, arith, refl, sym, ap, ◌∙◌, Bool, true, false, inl, inr, mod-lt}
use Rattle.std.specs.Prelude.{◌<ℤ◌, ◌-ℤ◌, if◌then◌else◌}
use Rattle.std.proofs.Math.Nat.{div-add-mod}
use Rattle.std.proofs.Math.Pow.{pow_mono}
use Rattle.std.proofs.lemmas.Bool.{cases_lt}
use Rattle.std.proofs.lemmas.Bool.Decides.{nat_tests}
use Rattle.std.proofs.lemmas.Int.{ints, by_lt_z}
use Rattle.std.proofs.lemmas.Nat.{pow_pos, pow-add}
use Rattle.fixed_bits.specs.Ranges.{IsInRange}
use Rattle.fixed_bits.proofs.Integers.{next_times, le_times, neg_times}
use Rattle.fixed_round.specs.Whole.{whole, whole_bits}
use Rattle.fixed_round.specs.Parts.{int_bits, round_to_zero_bits}
use Rattle.fixed_round.specs.declared.rounding.Rounding.TheVariants.{Ceil, Floor}
use Rattle.fixed_round.proofs.LawLemmas.{whole_is, whole_one, before_times}

-- the value lies between its floor and the next whole number
pub floor_bits : (b : ℤ) (f : ℕ) → (whole_bits Floor b f ≤ℤ b) × (b <ℤ (whole_bits Floor b f +ℤ pos (2 ^ f)))
unfolding whole_bits
floor_bits b f = let h = whole_is Floor b f in (h.at_most, rw (sym (next_times (whole Floor b f) (2 ^ f))) h.next)

-- a multiple is at most another one if it is less than one unit above it
multiple : (v w : ℤ) (u : ℕ) → (v *ℤ pos u) <ℤ ((w *ℤ pos u) +ℤ pos u) → (v *ℤ pos u) ≤ℤ (w *ℤ pos u)
multiple v w u h = by_lt_z w v
    (λ l. absurd (let m : (w +ℤ pos 1) ≤ℤ v = omega (arith, ints, l) in let k = le_times (w +ℤ pos 1) v u m in omega (arith, ints, k, next_times w u, h)))
    (λ l. le_times v w u l)

pub floor_fits : (s : Bool) (n : ℕ) (b : ℤ) (f : ℕ) → f < n → IsInRange s n b → IsInRange s n (whole_bits Floor b f)
unfolding whole_bits
floor_fits true n b f l h =
    let k = floor_bits b f in
    let e : 2 ^ (n - 1) ≡ 2 ^ (n - 1 - f) * 2 ^ f = ap (λ i. 2 ^ i) (omega arith) ∙ pow-add 2 (n - 1 - f) f in
    let v : ℤ = neg_ℤ (pos (2 ^ (n - 1 - f))) in
    let m : v *ℤ pos (2 ^ f) ≡ neg_ℤ (pos (2 ^ (n - 1))) = neg_times (2 ^ (n - 1 - f)) (2 ^ f) ∙ ap (λ i. neg_ℤ (pos i)) (sym e) in
    let low = multiple v (whole Floor b f) (2 ^ f) (rw m (omega (arith, ints, h.low, k.1))) in
    record { low = rw m at low; high = omega (arith, ints, h.high, k.0) }
floor_fits false n b f l h =
    let k = floor_bits b f in
    let z : pos 0 *ℤ pos (2 ^ f) ≡ pos 0 = omega (arith, ints) in
    let low = multiple (pos 0) (whole Floor b f) (2 ^ f) (rw z (omega (arith, ints, h.low, k.1))) in
    record { low = rw z at low; high = omega (arith, ints, h.high, k.0) }

pub frac_fits : (s : Bool) (n : ℕ) (b : ℤ) (f : ℕ) → f < n → IsInRange s n (b -ℤ whole_bits Floor b f)
frac_fits true n b f l =
    let k = floor_bits b f in
    let i : f ≤ n - 1 = omega arith in
    let p : 2 ^ f ≤ 2 ^ (n - 1) = pow_mono i in
    record { low = omega (arith, ints, k.0, pow_pos (n - 1)); high = omega (arith, ints, k.1, p) }
frac_fits false n b f l =
    let k = floor_bits b f in
    let i : f ≤ n = omega arith in
    let p : 2 ^ f ≤ 2 ^ n = pow_mono i in
    record { low = omega (arith, ints, k.0); high = omega (arith, ints, k.1, p) }

-- the two cases of the test in the definition
same_test : (f n : ℕ) → f ≡ n → (f == n) ≡ true
same_test f n e = grind (arith, nat_tests, e)

other_test : (f n : ℕ) → (f ≡ n → ⊥) → (f == n) ≡ false
other_test f n e = grind (arith, nat_tests, e)

pub int_none : (n : ℕ) (b : ℤ) (f : ℕ) → f ≡ n → int_bits n b f ≡ pos 0
unfolding int_bits
int_none n b f e = rw (same_test f n e) refl

pub int_floor : (n : ℕ) (b : ℤ) (f : ℕ) → (f ≡ n → ⊥) → int_bits n b f ≡ whole_bits Floor b f
unfolding int_bits
int_floor n b f e = rw (other_test f n e) refl

pub int_fits : (s : Bool) (n : ℕ) (b : ℤ) (f : ℕ) → f ≤ n → (f ≡ n → ⊥) → IsInRange s n b → IsInRange s n (int_bits n b f)
int_fits s n b f l e h =
    let m : f < n = elim (cases_lt f n) [ inl a ↦ a | inr a ↦ absurd (e (omega (arith, l, a))) ] in
    rw (int_floor n b f e) (floor_fits s n b f m h)

rest_by : (s : Bool) (n : ℕ) (b : ℤ) (f : ℕ) (t : Bool) → (f == n) ≡ t → f ≤ n → IsInRange s n b → IsInRange s n (b -ℤ (if t then pos 0 else whole_bits Floor b f))
rest_by s n b f true e l h = let z : b -ℤ pos 0 ≡ b = omega (arith, ints) in rw z h
rest_by s n b f false e l h = let m : f < n = grind (arith, nat_tests, e, l) in frac_fits s n b f m

pub rest_fits : (s : Bool) (n : ℕ) (b : ℤ) (f : ℕ) → f ≤ n → IsInRange s n b → IsInRange s n (b -ℤ int_bits n b f)
unfolding int_bits
rest_fits s n b f l h = rest_by s n b f (f == n) refl l h

-- ---- rounding towards zero
pub to_zero_of_positive : (b : ℤ) (f : ℕ) → pos 0 ≤ℤ b → whole_bits Floor b f ≡ round_to_zero_bits b f
unfolding whole_bits round_to_zero_bits
to_zero_of_positive (pos a) f l =
    let w : pos (a / 2 ^ f) ≡ whole Floor (pos a) f = (whole_one Floor (pos a) f (pos (a / 2 ^ f))).0 (record { at_most = omega (arith, ints, div-add-mod a (2 ^ f)); next = rw (next_times (pos (a / 2 ^ f)) (2 ^ f)) (omega (arith, ints, div-add-mod a (2 ^ f), mod-lt a (pow_pos f))) }) in
    ap (λ (z : ℤ). z *ℤ pos (2 ^ f)) (sym w)
to_zero_of_positive (negsuc a) f l = absurd (omega (arith, ints, l))

pub to_zero_of_negative : (b : ℤ) (f : ℕ) → b <ℤ pos 0 → whole_bits Ceil b f ≡ round_to_zero_bits b f
unfolding whole_bits round_to_zero_bits
to_zero_of_negative (pos a) f l = absurd (omega (arith, ints, l))
to_zero_of_negative (negsuc a) f l =
    let q = suc a / 2 ^ f in
    let m = neg_times q (2 ^ f) in
    let w : neg_ℤ (pos q) ≡ whole Ceil (negsuc a) f = (whole_one Ceil (negsuc a) f (neg_ℤ (pos q))).0 (record { before = rw (before_times (neg_ℤ (pos q)) (2 ^ f), m) (omega (arith, ints, div-add-mod (suc a) (2 ^ f), mod-lt (suc a) (pow_pos f))); at_least = rw m (omega (arith, ints, div-add-mod (suc a) (2 ^ f))) }) in
    ap (λ (z : ℤ). z *ℤ pos (2 ^ f)) (sym w) ∙ m

pub round_to_zero_fits : (s : Bool) (n : ℕ) (b : ℤ) (f : ℕ) → IsInRange s n b → IsInRange s n (round_to_zero_bits b f)
unfolding round_to_zero_bits
round_to_zero_fits true n (pos a) f h = record { low = omega (arith, ints, pow_pos (n - 1)); high = omega (arith, ints, h.high, div-add-mod a (2 ^ f)) }
round_to_zero_fits false n (pos a) f h = record { low = omega (arith, ints); high = omega (arith, ints, h.high, div-add-mod a (2 ^ f)) }
round_to_zero_fits true n (negsuc a) f h = record { low = omega (arith, ints, h.low, div-add-mod (suc a) (2 ^ f)); high = omega (arith, ints, pow_pos (n - 1)) }
round_to_zero_fits false n (negsuc a) f h = absurd (omega (arith, ints, h.low))
