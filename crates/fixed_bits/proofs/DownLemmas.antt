-- Moving down to another fraction length: shifts, uniqueness and order.
use Rattle.std.proofs.Common.{◌≡◌, ℕ, ◌+◌, ◌-◌, ◌*◌, ◌^◌, ◌≤◌, Bool, true, false, ℤ, pos, negsuc, neg_ℤ, ◌+ℤ◌, ◌*ℤ◌, ◌≤ℤ◌, arith, ap, sym, ◌∙◌, mod-lt, mul-le-mul_left}
use Rattle.std.specs.Prelude.{◌<ℤ◌}
use Rattle.std.specs.Int.{int_shr}
use Rattle.std.proofs.Math.Nat.{div-add-mod}
use Rattle.std.proofs.Math.Pow.{pow_mono}
use Rattle.std.proofs.lemmas.Int.{ints}
use Rattle.std.proofs.lemmas.Nat.{pow_pos, pow-add}
use Rattle.fixed_bits.specs.Down.{IsDown, down}
use Rattle.fixed_bits.specs.Ranges.{IsInRange, lowest, greatest}
use Rattle.fixed_bits.proofs.Integers.{next_times, le_times, lt_times, lt_cancel, times_times}

-- a shift that copies the sign rounds down
pub down_by_shift : (v : ℤ) (k : ℕ) → IsDown v k 0 (int_shr v k)
down_by_shift (pos a) k = record { at_most = omega (arith, ints, div-add-mod a (2 ^ k)); above = omega (arith, ints, div-add-mod a (2 ^ k), mod-lt a (pow_pos k)) }
down_by_shift (negsuc a) k = record { at_most = omega (arith, ints, div-add-mod a (2 ^ k), mod-lt a (pow_pos k)); above = rw next_times (omega (arith, ints, div-add-mod a (2 ^ k), mod-lt a (pow_pos k))) }

-- a shift by at least `n` bits moves a number of `n` bits that is not negative down to zero
pub down_past : (n k : ℕ) (v : ℤ) → n ≤ k → pos 0 ≤ℤ v → v <ℤ pos (2 ^ n) → IsDown v k 0 (pos 0)
down_past n k v le low high = let p = pow_mono le in record { at_most = omega (arith, ints, low); above = omega (arith, ints, high, p) }

pub down_past_below : (n k : ℕ) (v : ℤ) → n ≤ k → v <ℤ pos 0 → neg_ℤ (pos (2 ^ n)) ≤ℤ v → IsDown v k 0 (negsuc 0)
down_past_below n k v le high low = let p = pow_mono le in record { at_most = omega (arith, ints, low, p); above = omega (arith, ints, high) }

-- moving down keeps the order of values
pub down_order : (b c : ℤ) (f g : ℕ) (d e : ℤ) → b ≤ℤ c → IsDown b f g d → IsDown c f g e → d ≤ℤ e
down_order b c f g d e h x y =
    let grow = le_times b c (2 ^ g) h in
    let mid : (d *ℤ pos (2 ^ f)) <ℤ ((e +ℤ pos 1) *ℤ pos (2 ^ f)) = omega (arith, ints) in
    let s : d <ℤ (e +ℤ pos 1) = lt_cancel d (e +ℤ pos 1) (2 ^ f) mid in
    omega (arith, ints)

pub down_unique : (b : ℤ) (f g : ℕ) (d e : ℤ) → IsDown b f g d → IsDown b f g e → d ≡ e
down_unique b f g d e x y =
    let le : d ≤ℤ e = down_order b b f g d e (omega (arith, ints)) x y in
    let ge : e ≤ℤ d = down_order b b f g e d (omega (arith, ints)) y x in
    omega (arith, ints)

-- ---- the function `down`
pub down_is : (b : ℤ) (f g : ℕ) → IsDown b f g (down b f g)
unfolding down
down_is b f g =
    let v : ℤ = b *ℤ pos (2 ^ g) in
    let h = down_by_shift v f in
    let e : v *ℤ pos (2 ^ 0) ≡ v = omega (arith, ints) in
    record { at_most = rw e at h.at_most; above = rw e at h.above }

pub down_equal : (b : ℤ) (f g : ℕ) (d : ℤ) → IsDown b f g d → d ≡ down b f g
down_equal b f g d h = down_unique b f g d (down b f g) h (down_is b f g)

-- ---- moving to a shorter or a longer fraction length
-- the result stays the same if both fraction lengths grow by `h`
down_longer : (b : ℤ) (f g h : ℕ) (d : ℤ) → IsDown b f g d → IsDown b (f + h) (g + h) d
down_longer b f g h d x =
    let p : (z : ℤ) (k : ℕ) → z *ℤ pos (2 ^ (k + h)) ≡ (z *ℤ pos (2 ^ k)) *ℤ pos (2 ^ h) = λ z k. ap (λ i. z *ℤ pos i) (pow-add 2 k h) ∙ sym (times_times z (2 ^ k) (2 ^ h)) in
    record {
      at_most = rw (p d f, p b g) (le_times (d *ℤ pos (2 ^ f)) (b *ℤ pos (2 ^ g)) (2 ^ h) x.at_most);
      above = rw (p b g, p (d +ℤ pos 1) f) (lt_times (b *ℤ pos (2 ^ g)) ((d +ℤ pos 1) *ℤ pos (2 ^ f)) (2 ^ h) (pow_pos h) x.above);
    }

-- moving to a longer fraction length loses nothing
down_up : (b : ℤ) (f k : ℕ) → IsDown b f (f + k) (b *ℤ pos (2 ^ k))
down_up b f k =
    let e : b *ℤ pos (2 ^ (f + k)) ≡ (b *ℤ pos (2 ^ k)) *ℤ pos (2 ^ f) = ap (λ i. b *ℤ pos i) (pow-add 2 f k ∙ omega arith) ∙ sym (times_times b (2 ^ k) (2 ^ f)) in
    record {
      at_most = rw e (omega (arith, ints));
      above = rw (e, next_times (b *ℤ pos (2 ^ k)) (2 ^ f)) (omega (arith, ints, pow_pos f));
    }

pub grown : (b : ℤ) (f g : ℕ) → f ≤ g → b *ℤ pos (2 ^ (g - f)) ≡ down b f g
grown b f g l =
    let i : f + (g - f) ≡ g = omega arith in
    down_equal b f g (b *ℤ pos (2 ^ (g - f))) (rw i at (down_up b f (g - f)))

pub shortened : (b : ℤ) (f g : ℕ) (d : ℤ) → g ≤ f → IsDown b (f - g) 0 d → d ≡ down b f g
shortened b f g d l h =
    let i : (f - g) + g ≡ f = omega arith in
    let j : 0 + g ≡ g = omega arith in
    down_equal b f g d (rw (i, j) at (down_longer b (f - g) 0 g d h))

-- zero is not below the lowest number of a range
lowest_not_above_zero : (s : Bool) (n : ℕ) → lowest s n ≤ℤ pos 0
lowest_not_above_zero true n = omega (arith, ints)
lowest_not_above_zero false n = omega (arith, ints)

before_zero : (s : Bool) (n : ℕ) → negsuc 0 ≤ℤ greatest s n
before_zero true n = omega (arith, ints)
before_zero false n = omega (arith, ints)

-- a number in range stays in range if its last bits are shifted out
pub shift_in : (s : Bool) (n k : ℕ) (v d : ℤ) → IsInRange s n v → IsDown v k 0 d → IsInRange s n d
shift_in s n k v (pos a) r h =
    let grow : a * 1 ≤ a * 2 ^ k = mul-le-mul_left a (pow_pos k) in
    let p = h.at_most in
    record {
      low = let z = lowest_not_above_zero s n in omega (arith, ints);
      high = let u = r.high in omega (arith, ints);
    }
shift_in s n k v (negsuc a) r h =
    let grow : a * 1 ≤ a * 2 ^ k = mul-le-mul_left a (pow_pos k) in
    let p = rw next_times at h.above in
    record {
      low = let l = r.low in omega (arith, ints);
      high = let z = before_zero s n in omega (arith, ints);
    }
