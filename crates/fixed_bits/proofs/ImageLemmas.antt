-- Images of numbers: uniqueness, and the ranges of formats and policies.
use Rattle.std.proofs.Common.{◌≡◌, ℕ, zero, suc, ◌+◌, ◌-◌, ◌*◌, ◌^◌, ◌<◌, ◌≤◌, Bool, true, false, ℤ, pos, ◌+ℤ◌, arith, refl, sym, ap, inl, inr, ⊎_elim, ◌∙◌}
use Rattle.std.specs.Prelude.{◌<ℤ◌, ◌↔◌}
use Rattle.std.proofs.lemmas.Bool.{cases_lt}
use Rattle.std.proofs.lemmas.Int.{ints, by_lt_z}
use Rattle.std.proofs.lemmas.Nat.{pow_pos}
use Rattle.std.proofs.Math.Nat.{pow-succ'}
use Rattle.std.proofs.Math.Pow.{pow_mono}
use Rattle.fixed_bits.specs.Formats.{IsFormat, IsTypeFormat}
use Rattle.fixed_bits.specs.Ranges.{IsInRange, IsOutOfRange, IsTypeWidth, IsWidth, IsWide, lowest, greatest}
use Rattle.fixed_bits.specs.Images.{IsImage, IsInRangeBy, IsOutOfRangeBy, IsSaturated, IsWrapped, DiffersByMultiple, lowest_by}
use Rattle.fixed_bits.specs.declared.format.Policy.{Policy}
use Rattle.fixed_bits.specs.declared.format.Policy.TheVariants.{Checked, Saturating, Wrapping, Symmetric}

-- ---- widths
twice_some : (n : ℕ) → 0 < n → 2 ^ n ≡ 2 * 2 ^ (n - 1)
twice_some zero some = absurd (omega (arith, some))
twice_some (suc n) some = let e : suc n - 1 ≡ n = omega arith in rw e (omega (arith, pow-succ' 2 n))

pub twice : (n : ℕ) → IsWidth n → 2 ^ n ≡ 2 * 2 ^ (n - 1)
twice n w = twice_some n w.some

-- the width of an integer type is one that a format may have
pub type_width : (n : ℕ) → IsTypeWidth n → IsWidth n
type_width n (inl e) = record { some = omega (arith, e); most = omega (arith, e) }
type_width n (inr (inl e)) = record { some = omega (arith, e); most = omega (arith, e) }
type_width n (inr (inr (inl e))) = record { some = omega (arith, e); most = omega (arith, e) }
type_width n (inr (inr (inr e))) = record { some = omega (arith, e); most = omega (arith, e) }

pub type_least : (n : ℕ) → IsTypeWidth n → 8 ≤ n
type_least n (inl e) = omega (arith, e)
type_least n (inr (inl e)) = omega (arith, e)
type_least n (inr (inr (inl e))) = omega (arith, e)
type_least n (inr (inr (inr e))) = omega (arith, e)

pub type_format : (w f : ℕ) → IsTypeFormat w f → IsFormat w f
type_format w f is = let width = type_width w is.is_width in record { is_width = width; within = omega (arith, width.most, is.within) }

-- ---- the policy's range

-- a number in the policy's range is in the format's range
pub in_range_of : (p : Policy) (s : Bool) (n : ℕ) (v : ℤ) → IsInRangeBy p s n v → IsInRange s n v
in_range_of Checked s n v h = record { low = h.low; high = h.high }
in_range_of Saturating s n v h = record { low = h.low; high = h.high }
in_range_of Wrapping s n v h = record { low = h.low; high = h.high }
in_range_of Symmetric true n v h = record { low = omega (arith, ints, h.low); high = h.high }
in_range_of Symmetric false n v h = record { low = h.low; high = h.high }

-- ---- a number in the policy's range is its own image
pub image_same : (p : Policy) (s : Bool) (n : ℕ) (v : ℤ) → IsInRangeBy p s n v → IsImage p s n v v
image_same Checked s n v h = record { in_range = in_range_of Checked s n v h; same = refl }
image_same Saturating s n v h = record {
  same = λ _. refl;
  below = λ l. absurd (let k = h.low in omega (arith, ints));
  above = λ l. absurd (let k = h.high in omega (arith, ints));
}
image_same Wrapping s n v h = record { in_range = in_range_of Wrapping s n v h; near = (0, 0, refl) }
image_same Symmetric s n v h = record {
  same = λ _. refl;
  below = λ l. absurd (let k = h.low in omega (arith, ints));
  above = λ l. absurd (let k = h.high in omega (arith, ints));
}

-- ---- images are unique
apart : (m k : ℕ) (c d : ℤ) → c <ℤ (d +ℤ pos m) → c ≡ d +ℤ pos (k * m) → c ≡ d
apart m zero c d near e = omega (arith, ints)
apart m (suc k) c d near e = absurd (omega (arith, ints))

apart_more : (m j k : ℕ) (c d : ℤ) → j ≤ k → c <ℤ (d +ℤ pos m) → c +ℤ pos (j * m) ≡ d +ℤ pos (k * m) → c ≡ d
apart_more m j k c d le near e =
    let s : k ≡ j + (k - j) = omega arith in
    let t : k * m ≡ j * m + (k - j) * m = ap (λ x. x * m) s ∙ omega arith in
    apart m (k - j) c d near (omega (arith, ints))

pub near_same : (m : ℕ) (c d : ℤ) → c <ℤ (d +ℤ pos m) → d <ℤ (c +ℤ pos m) → DiffersByMultiple m c d → c ≡ d
near_same m c d x y w = ⊎_elim
    (λ l. apart_more m w.0 w.1 c d (omega arith) x w.2)
    (λ l. sym (apart_more m w.1 w.0 d c (omega arith) y (sym w.2)))
    (cases_lt w.0 w.1)

pub near_turned : (m : ℕ) (a b : ℤ) → DiffersByMultiple m a b → DiffersByMultiple m b a
near_turned m a b w = (w.1, w.0, sym w.2)

pub near_joined : (m : ℕ) (a b c : ℤ) → DiffersByMultiple m a b → DiffersByMultiple m b c → DiffersByMultiple m a c
near_joined m a b c v w = (v.0 + w.0, v.1 + w.1, omega (arith, ints, v.2, w.2))

pub range_short : (s : Bool) (n : ℕ) (c d : ℤ) → 2 ^ n ≡ 2 * 2 ^ (n - 1) → IsInRange s n c → IsInRange s n d → c <ℤ (d +ℤ pos (2 ^ n))
range_short true n c d e a b = omega (arith, ints, a.high, b.low, pow_pos (n - 1))
range_short false n c d e a b = omega (arith, ints, a.high, b.low, pow_pos n)

pub wrapped_unique : (s : Bool) (n : ℕ) (v c d : ℤ) → IsWidth n → IsWrapped s n v c → IsWrapped s n v d → c ≡ d
wrapped_unique s n v c d w a b =
    let e = twice n w in
    near_same (2 ^ n) c d (range_short s n c d e a.in_range b.in_range) (range_short s n d c e b.in_range a.in_range)
    (near_joined (2 ^ n) c v d a.near (near_turned (2 ^ n) d v b.near))

-- a number is in range, below it or above it
pub by_range : {P : Type 0} (s : Bool) (n : ℕ) (v : ℤ) → (IsInRange s n v → P) → (v <ℤ lowest s n → P) → (greatest s n <ℤ v → P) → P
by_range s n v inside under over = by_lt_z v (lowest s n) under (λ l. by_lt_z (greatest s n) v over (λ h. inside (record { low = l; high = h })))

-- the same for the policy's range
pub by_policy_range : {P : Type 0} (p : Policy) (s : Bool) (n : ℕ) (v : ℤ) → (IsInRangeBy p s n v → P) → (v <ℤ lowest_by p s n → P) → (greatest s n <ℤ v → P) → P
by_policy_range p s n v inside under over = by_lt_z v (lowest_by p s n) under (λ l. by_lt_z (greatest s n) v over (λ h. inside (record { low = l; high = h })))

pub image_unique : (p : Policy) (s : Bool) (n : ℕ) (v c d : ℤ) → IsWidth n → IsImage p s n v c → IsImage p s n v d → c ≡ d
image_unique Checked s n v c d w a b = a.same ∙ sym b.same
image_unique Saturating s n v c d w a b = by_range s n v (λ h. a.same h ∙ sym (b.same h)) (λ h. a.below h ∙ sym (b.below h)) (λ h. a.above h ∙ sym (b.above h))
image_unique Wrapping s n v c d w a b = wrapped_unique s n v c d w a b
image_unique Symmetric s n v c d w a b = by_policy_range Symmetric s n v (λ h. a.same h ∙ sym (b.same h)) (λ h. a.below h ∙ sym (b.below h)) (λ h. a.above h ∙ sym (b.above h))

-- no number is both in range and out of range
pub out_not_in : (s : Bool) (n : ℕ) (v : ℤ) → IsOutOfRange s n v → IsInRange s n v → ⊥
out_not_in s n v (inl l) h = let k = h.low in omega (arith, ints)
out_not_in s n v (inr l) h = let k = h.high in omega (arith, ints)

pub out_not_in_by : (p : Policy) (s : Bool) (n : ℕ) (v : ℤ) → IsOutOfRangeBy p s n v → IsInRangeBy p s n v → ⊥
out_not_in_by p s n v (inl l) h = let k = h.low in omega (arith, ints)
out_not_in_by p s n v (inr l) h = let k = h.high in omega (arith, ints)

-- ---- numbers in range are wide
pub width_most : (n : ℕ) → IsWidth n → n ≤ 64
width_most n w = w.most

-- the ends of a range of at most 64 bits are wide
pub lowest_wide : (s : Bool) (n : ℕ) → n ≤ 64 → IsWide (lowest s n)
lowest_wide true n w =
    let i : n - 1 ≤ 63 = omega arith in
    let p : 2 ^ (n - 1) ≤ 2 ^ 63 = pow_mono i in
    record { low = omega (arith, ints, p); high = omega (arith, ints, p) }
lowest_wide false n w = record { low = omega (arith, ints); high = omega (arith, ints) }

pub greatest_wide : (s : Bool) (n : ℕ) → n ≤ 64 → IsWide (greatest s n)
greatest_wide true n w =
    let i : n - 1 ≤ 63 = omega arith in
    let p : 2 ^ (n - 1) ≤ 2 ^ 63 = pow_mono i in
    record { low = omega (arith, ints, p, pow_pos (n - 1)); high = omega (arith, ints, p) }
greatest_wide false n w = let p : 2 ^ n ≤ 2 ^ 64 = pow_mono w in record { low = omega (arith, ints, pow_pos n); high = omega (arith, ints, p, pow_pos n) }

pub in_wide : (s : Bool) (n : ℕ) (v : ℤ) → n ≤ 64 → IsInRange s n v → IsWide v
in_wide s n v w h =
    let a = (lowest_wide s n w).low in
    let b = (greatest_wide s n w).high in
    let c = h.low in
    let d = h.high in
    record { low = omega (arith, ints); high = omega (arith, ints) }

-- ---- images are in range
pub lowest_in : (s : Bool) (n : ℕ) → IsInRange s n (lowest s n)
lowest_in true n = record { low = omega (arith, ints); high = omega (arith, ints, pow_pos (n - 1)) }
lowest_in false n = record { low = omega (arith, ints); high = omega (arith, ints, pow_pos n) }

pub greatest_in : (s : Bool) (n : ℕ) → IsInRange s n (greatest s n)
greatest_in true n = record { low = omega (arith, ints, pow_pos (n - 1)); high = omega (arith, ints) }
greatest_in false n = record { low = omega (arith, ints, pow_pos n); high = omega (arith, ints) }

-- both ends of Symmetric's range are in it
symmetric_lowest : (s : Bool) (n : ℕ) → IsInRangeBy Symmetric s n (lowest_by Symmetric s n)
symmetric_lowest true n = record { low = omega (arith, ints); high = omega (arith, ints, pow_pos (n - 1)) }
symmetric_lowest false n = record { low = omega (arith, ints); high = omega (arith, ints, pow_pos n) }

symmetric_greatest : (s : Bool) (n : ℕ) → IsInRangeBy Symmetric s n (greatest s n)
symmetric_greatest true n = record { low = omega (arith, ints, pow_pos (n - 1)); high = omega (arith, ints) }
symmetric_greatest false n = record { low = omega (arith, ints, pow_pos n); high = omega (arith, ints) }

saturated_in : (s : Bool) (n : ℕ) (v c : ℤ) → IsSaturated s n v c → IsInRange s n c
saturated_in s n v c i = by_range s n v (λ h. rw (i.same h) h) (λ h. rw (i.below h) (lowest_in s n)) (λ h. rw (i.above h) (greatest_in s n))

pub image_in_by : (p : Policy) (s : Bool) (n : ℕ) (v c : ℤ) → IsImage p s n v c → IsInRangeBy p s n c
image_in_by Checked s n v c i = let r = i.in_range in rw i.same (record { low = r.low; high = r.high })
image_in_by Saturating s n v c i = let r = saturated_in s n v c i in record { low = r.low; high = r.high }
image_in_by Wrapping s n v c i = let r = i.in_range in record { low = r.low; high = r.high }
image_in_by Symmetric s n v c i = by_policy_range Symmetric s n v (λ h. rw (i.same h) h) (λ h. rw (i.below h) (symmetric_lowest s n)) (λ h. rw (i.above h) (symmetric_greatest s n))

pub image_in : (p : Policy) (s : Bool) (n : ℕ) (v c : ℤ) → IsImage p s n v c → IsInRange s n c
image_in p s n v c i = in_range_of p s n c (image_in_by p s n v c i)

-- the lowest number of the policy's range is wide
pub lowest_left_wide : (p : Policy) (s : Bool) (n : ℕ) → n ≤ 64 → IsWide (lowest_by p s n)
lowest_left_wide Checked s n w = lowest_wide s n w
lowest_left_wide Saturating s n w = lowest_wide s n w
lowest_left_wide Wrapping s n w = lowest_wide s n w
lowest_left_wide Symmetric s n w = in_wide s n (lowest_by Symmetric s n) w (in_range_of Symmetric s n (lowest_by Symmetric s n) (symmetric_lowest s n))

-- in an unsigned format, Symmetric and Saturating have the same images
pub unsigned_saturated : (n : ℕ) (v c : ℤ) → IsImage Symmetric false n v c ↔ IsSaturated false n v c
unsigned_saturated n v c = (
  λ i. record { same = λ h. i.same (record { low = h.low; high = h.high }); below = i.below; above = i.above },
  λ i. record { same = λ h. i.same (record { low = h.low; high = h.high }); below = i.below; above = i.above },
)

-- a number in range is its own Wrapping image
pub wrapped_same : (s : Bool) (n : ℕ) (v r : ℤ) → IsWidth n → IsInRange s n v → IsWrapped s n v r → r ≡ v
wrapped_same s n v r w h i = wrapped_unique s n v r v w i (image_same Wrapping s n v (record { low = h.low; high = h.high }))

-- a number in range is its own Saturating image
pub saturated_inside : (s : Bool) (n : ℕ) (v r : ℤ) → IsInRange s n v → r ≡ v → IsSaturated s n v r
saturated_inside s n v r h e = rw e (image_same Saturating s n v (record { low = h.low; high = h.high }))
