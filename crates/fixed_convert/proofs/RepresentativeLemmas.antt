-- Representatives of numbers: the same images, and the same side of every range.
use Rattle.std.proofs.Common.{IsTrue, not, ◌≡◌, ℕ, suc, ◌+◌, ◌-◌, ◌*◌, ◌^◌, ◌≤◌, Bool, true, false, ℤ, pos, negsuc, neg_ℤ, arith, refl, sym, ap, inl, inr, ⊎_elim, ◌∙◌, mul-le-mul_right}
use Rattle.std.specs.Prelude.{◌<ℤ◌, ◌↔◌}
use Rattle.std.proofs.lemmas.Int.{ints}
use Rattle.std.proofs.lemmas.Nat.{pow-add}
use Rattle.std.proofs.Math.Pow.{pow_mono}
use Rattle.fixed_bits.specs.Ranges.{IsInRange, IsOutOfRange, IsWide, lowest, greatest}
use Rattle.fixed_bits.specs.Images.{IsImage, DiffersByMultiple, lowest_by}
use Rattle.fixed_bits.specs.declared.format.Policy.{Policy}
use Rattle.fixed_bits.specs.declared.format.Policy.TheVariants.{Checked, Saturating, Wrapping, Symmetric}
use Rattle.fixed_bits.proofs.Public.{in_range_of, lowest_left_wide, near_joined, range_decided, ends_wide}
use Rattle.fixed_convert.specs.Moved.{shifted}
use Rattle.fixed_convert.specs.Inner.Representative.{Represents, OnSameSide}

-- ---- the same side of each wide number
pub side_turned : (v w : ℤ) → OnSameSide v w → OnSameSide w v
side_turned v w (inl e) = inl (sym e)
side_turned v w (inr (inl h)) = inr (inl (h.1, h.0))
side_turned v w (inr (inr h)) = inr (inr (h.1, h.0))

pub side_below : (v w e : ℤ) → OnSameSide v w → IsWide e → v <ℤ e → w <ℤ e
side_below v w e (inl q) x h = rw q h
side_below v w e (inr (inl q)) x h = absurd (let a = q.0 in let b = x.high in omega (arith, ints))
side_below v w e (inr (inr q)) x h = let a = q.1 in let b = x.low in omega (arith, ints)

pub side_above : (v w e : ℤ) → OnSameSide v w → IsWide e → e <ℤ v → e <ℤ w
side_above v w e (inl q) x h = rw q h
side_above v w e (inr (inl q)) x h = let a = q.1 in let b = x.high in omega (arith, ints)
side_above v w e (inr (inr q)) x h = absurd (let a = q.0 in let b = x.low in omega (arith, ints))

pub side_same : (s : Bool) (n : ℕ) (v w : ℤ) → n ≤ 64 → OnSameSide v w → IsInRange s n v → w ≡ v
side_same s n v w l (inl e) h = e
side_same s n v w l (inr (inl q)) h = absurd (let a = q.0 in let b = h.high in let c = (ends_wide s n l).1.high in omega (arith, ints))
side_same s n v w l (inr (inr q)) h = absurd (let a = q.0 in let b = h.low in let c = (ends_wide s n l).0.low in omega (arith, ints))

pub side_in : (s : Bool) (n : ℕ) (v w : ℤ) → n ≤ 64 → OnSameSide v w → IsInRange s n v → IsInRange s n w
side_in s n v w l o h = rw (side_same s n v w l o h) h

-- ---- the same images
pub near_less : (n : ℕ) (a b : ℤ) → n ≤ 64 → DiffersByMultiple (2 ^ 64) a b → DiffersByMultiple (2 ^ n) a b
near_less n a b l w =
    let i : (64 - n) + n ≡ 64 = omega arith in
    let e : 2 ^ 64 ≡ 2 ^ (64 - n) * 2 ^ n = ap (λ x. 2 ^ x) (sym i) ∙ pow-add 2 (64 - n) n in
    let p : w.0 * 2 ^ 64 ≡ w.0 * 2 ^ (64 - n) * 2 ^ n = ap (λ x. w.0 * x) e ∙ omega arith in
    let q : w.1 * 2 ^ 64 ≡ w.1 * 2 ^ (64 - n) * 2 ^ n = ap (λ x. w.1 * x) e ∙ omega arith in
    (w.0 * 2 ^ (64 - n), w.1 * 2 ^ (64 - n), rw (p, q) at w.2)

pub represents_image : (p : Policy) (s : Bool) (n : ℕ) (v w c : ℤ) → n ≤ 64 → Represents v w → IsImage p s n w c → IsImage p s n v c
represents_image Checked s n v w c l st h =
    let back = side_turned v w st.side in
    record { in_range = side_in s n w v l back h.in_range; same = h.same ∙ sym (side_same s n w v l back h.in_range) }
represents_image Saturating s n v w c l st h = record {
  same = λ x. h.same (side_in s n v w l st.side x) ∙ side_same s n v w l st.side x;
  below = λ x. h.below (side_below v w (lowest s n) st.side (ends_wide s n l).0 x);
  above = λ x. h.above (side_above v w (greatest s n) st.side (ends_wide s n l).1 x);
}
represents_image Wrapping s n v w c l st h = record {
  in_range = h.in_range;
  near = near_joined (2 ^ n) c w v h.near (near_less n w v l st.near);
}
represents_image Symmetric s n v w c l st h = record {
  same = λ x.
      let one = side_same s n v w l st.side (in_range_of Symmetric s n v x) in
      h.same (rw one x) ∙ one;
  below = λ x. h.below (side_below v w (lowest_by Symmetric s n) st.side (lowest_left_wide Symmetric s n l) x);
  above = λ x. h.above (side_above v w (greatest s n) st.side (ends_wide s n l).1 x);
}

-- ---- the representative of a product
split_power : (k : ℕ) → 64 ≤ k → 2 ^ k ≡ 2 ^ (k - 64) * 2 ^ 64
split_power k l = let i : k ≡ (k - 64) + 64 = omega arith in ap (λ x. 2 ^ x) i ∙ pow-add 2 (k - 64) 64

pub represents_above : (b : ℤ) (k : ℕ) → 64 ≤ k → pos 0 <ℤ b → Represents (shifted b k) (pos (2 ^ 64))
represents_above (pos a) k l h =
    let e : a * 2 ^ k ≡ a * 2 ^ (k - 64) * 2 ^ 64 = ap (λ x. a * x) (split_power k l) ∙ omega arith in
    let p : 2 ^ 64 ≤ 2 ^ k = pow_mono l in
    let one : 1 ≤ a = omega (arith, ints) in
    let q : 1 * 2 ^ k ≤ a * 2 ^ k = mul-le-mul_right (2 ^ k) one in
    record {
      near = (a * 2 ^ (k - 64), 1, omega (arith, ints, e));
      side = inr (inl (omega (arith, ints, p, q), omega (arith, ints)));
    }
represents_above (negsuc a) k l h = absurd (omega (arith, ints))

pub represents_below : (b : ℤ) (k : ℕ) → 64 ≤ k → b <ℤ pos 0 → Represents (shifted b k) (neg_ℤ (pos (2 ^ 64)))
represents_below (pos a) k l h = absurd (omega (arith, ints))
represents_below (negsuc a) k l h =
    let e : suc a * 2 ^ k ≡ suc a * 2 ^ (k - 64) * 2 ^ 64 = ap (λ x. suc a * x) (split_power k l) ∙ omega arith in
    let p : 2 ^ 64 ≤ 2 ^ k = pow_mono l in
    let one : 1 ≤ suc a = omega arith in
    let q : 1 * 2 ^ k ≤ suc a * 2 ^ k = mul-le-mul_right (2 ^ k) one in
    record {
      near = (1, suc a * 2 ^ (k - 64), omega (arith, ints, e));
      side = inr (inr (omega (arith, ints, p, q), omega (arith, ints)));
    }

-- the negated test of "in range" tests "out of range"
pub flag_out : (t : Bool) (s : Bool) (n : ℕ) (v : ℤ) → (IsTrue t ↔ IsInRange s n v) → IsTrue (not t) ↔ IsOutOfRange s n v
flag_out true s n v e = ((λ x. absurd (let y : false ≡ true = x in cc)), (λ o. absurd ((range_decided s n v).1 o (e.0 refl))))
flag_out false s n v e = ((λ x. ⊎_elim (λ h. absurd (let y : false ≡ true = e.1 h in cc)) (λ o. o) (range_decided s n v).0), (λ o. refl))
