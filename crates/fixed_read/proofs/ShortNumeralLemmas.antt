-- Readings from the numbers of a numeral's parts.
use Rattle.std.proofs.Common.{◌≡◌, ℕ, zero, suc, ◌+◌, ◌-◌, ◌*◌, ◌/◌, ◌%◌, ◌^◌, ◌<◌, ◌≤◌, ◌↔◌, Bool, true, false, IsTrue, refl, sym, ap, ◌∙◌, arith, pow_pos, mul-pos, mul-le-mul_right, div-add-mod', mod-lt, ℤ, pos, negsuc, ◌-ℤ◌, ◌*ℤ◌, cond, subst, Option, Some, None, IfSome}
use Rattle.std.specs.Prelude.{◌<ℤ◌}
use Rattle.std.proofs.lemmas.Int.{ints}
use Rattle.std.proofs.lemmas.Nat.{pow-add}
use Rattle.std.proofs.Math.Nat.{one-le-pow, pow-le-pow_right}
use Rattle.fixed_numeral.proofs.Public.{pow-mul}
use Rattle.fixed_numeral.specs.Numeral.{Parts, Exponent, base}
use Rattle.fixed_numeral.specs.PartNumbers.{IsShortNumeral, is_power_of_two, placed_magnitude}
use Rattle.fixed_numeral.specs.Spelled.{IsSameNumber}
use Rattle.fixed_numeral.specs.Value.{Fraction, scaled, magnitude}
use Rattle.fixed_numeral.specs.declared.radix.Radix.{Radix}
use Rattle.fixed_numeral.specs.declared.radix.Radix.TheVariants.{Dec}
use Rattle.fixed_read.specs.Inner.Blocks.{IsCandidate}
use Rattle.fixed_read.specs.Inner.BinaryPower.{up_of, down_of, ups, downs}
use Rattle.fixed_bits.specs.Rounded.{IsRounded}
use Rattle.fixed_bits.specs.LostFractions.{IsLostFraction}
use Rattle.fixed_read.specs.Inner.Rounding.{IsSplitUlps, IsMagnitude}
use Rattle.fixed_read.specs.declared.magnitude.Ulps.{Ulps}
use Rattle.fixed_bits.specs.declared.mode.ReadMode.{ReadMode}
use Rattle.fixed_bits.specs.declared.rounding.LostFraction.{LostFraction}
use Rattle.fixed_bits.specs.declared.rounding.LostFraction.TheVariants.{Zero}
use Rattle.fixed_read.proofs.MultipleLemmas.{cancel_eq, exact_rest, multiple_same}
use Rattle.fixed_bits.proofs.Public.{rounded_exact, rounded_same}
use Rattle.fixed_read.proofs.LostLemmas.{tail_within}

-- ---- the cases of an option
pub if_some : {T : Type 0} (P Q : T → Type 0) (o : Option T) → ((x : T) → P x → Q x) → IfSome o P → IfSome o Q
if_some P Q None f h = h
if_some P Q (Some x) f h = f x h

-- ---- ulps, and the rest of one ulp
pub candidate_split : (block count frac q rest unit bits : ℕ) (lost : LostFraction) → IsCandidate block count frac q rest unit bits → IsLostFraction lost rest unit → IsSplitUlps block (10 ^ count) frac q lost
candidate_split block count frac q rest unit bits lost c left = record {
  rest = rest;
  unit = unit;
  some = omega (arith, c.small);
  split = omega (arith, ap (λ x. x * (10 ^ count)) c.split, ap (λ x. block * x) c.scale);
  left = left;
}

pub split_narrower : (num x den frac q : ℕ) (lost : LostFraction) → 0 < x → IsSplitUlps (num * x) (den * x) frac q lost → IsSplitUlps num den frac q lost
split_narrower num x den frac q lost some h = record {
  rest = h.rest;
  unit = h.unit;
  some = h.some;
  split = cancel_eq (num * 2 ^ frac * h.unit) ((q * h.unit + h.rest) * den) x some (omega (arith, h.split));
  left = h.left;
}

pub split_whole : (w num den frac q count : ℕ) (lost : LostFraction) → count ≡ w * 2 ^ frac + q → IsSplitUlps num den frac q lost → IsSplitUlps (w * den + num) den frac count lost
split_whole w num den frac q count lost e h = record {
  rest = h.rest;
  unit = h.unit;
  some = h.some;
  split = rw e (omega (arith, h.split));
  left = h.left;
}

pub split_coarser : (num den frac bits ulps w low half : ℕ) (lost coarse : LostFraction) → 2 ^ bits ≡ 2 * half → ulps ≡ w * 2 ^ bits + low → IsSplitUlps num den (frac + bits) ulps lost → ((d y : ℕ) → y < d → 0 < d → IsLostFraction lost y d → IsLostFraction coarse (low * d + y) (2 * half * d)) → IsSplitUlps num den frac w coarse
split_coarser num den frac bits ulps w low half lost coarse two e h left = record {
  rest = low * h.unit + h.rest;
  unit = 2 * half * h.unit;
  some = mul-pos (rw two at (pow_pos bits)) h.some;
  split = omega (arith, (rw (pow-add 2 frac bits, two) at h.split), ap (λ x. x * h.unit * den) (rw two at e));
  left = left h.unit h.rest (tail_within lost h.rest h.unit h.some h.left) h.some h.left;
}

-- ---- a fraction with trailing zeros
pub ten_split : (p n : ℕ) → p ≤ n → 10 ^ n ≡ 10 ^ p * 10 ^ (n - p)
ten_split p n l = ap (λ i. 10 ^ i) (let z : n ≡ p + (n - p) = omega arith in z) ∙ pow-add 10 p (n - p)

pub padded_room : (f p n : ℕ) → f < 10 ^ p → p ≤ n → f * 10 ^ (n - p) < 10 ^ n
padded_room f p n below l = plain (10 ^ p) (10 ^ (n - p)) (10 ^ n) (ten_split p n l) (one-le-pow (n - p) 10 (omega arith)) below
  where
    plain : (a b t : ℕ) → t ≡ a * b → 0 < b → f < a → f * b < t
    plain a b t e q k = omega (arith, e, mul-le-mul_right b k)

pub padded_split : (f p n frac q : ℕ) (lost : LostFraction) → p ≤ n → IsSplitUlps (f * 10 ^ (n - p)) (10 ^ n) frac q lost → IsSplitUlps f (10 ^ p) frac q lost
padded_split f p n frac q lost l h = split_narrower f (10 ^ (n - p)) (10 ^ p) frac q lost (one-le-pow (n - p) 10 (omega arith)) (rw (ten_split p n l) at h)

-- ---- halves
pub half_of : (bits : ℕ) → 0 < bits → 2 ^ bits ≡ 2 * 2 ^ (bits - 1)
half_of bits some = ap (λ i. 2 ^ i) (let z : bits ≡ (bits - 1) + 1 = omega arith in z) ∙ pow-add 2 (bits - 1) 1 ∙ omega arith

pub coarser_small : (ulps w frac bits : ℕ) → w ≡ ulps / 2 ^ bits → ulps < 2 ^ (frac + bits) → w < 2 ^ frac
coarser_small ulps w frac bits e l = grind (arith, (rw (pow-add 2 frac bits) at l), (rw (← e) at (div-add-mod' ulps (2 ^ bits))))

-- ---- rounding
pub magnitude_is_rounded : (mode : ReadMode) (num den frac q more high : ℕ) (lost : LostFraction) (ulps : Ulps) → 0 < den → (h : IsSplitUlps num den frac q lost) → IsRounded mode false (q * h.unit + h.rest) h.unit (q + more) → ((y d : ℕ) → 0 < d → IsLostFraction lost y d → IsTrue ulps.is_exact ↔ (y ≡ 0)) → q + more ≡ high * 2 ^ 64 + ulps.low → (IsTrue ulps.has_high_bits ↔ (0 < high)) → IsMagnitude mode (record { num = num; den = den }) frac ulps
magnitude_is_rounded mode num den frac q more high lost ulps some h to none e over =
    let test = exact_rest (num * 2 ^ frac) den q h.unit h.rest some h.some (tail_within lost h.rest h.unit h.some h.left) h.split in
    record {
      high = high;
      to = rw e at (rounded_same mode false (q * h.unit + h.rest) h.unit (num * 2 ^ frac) den (q + more) h.some some (sym h.split) to);
      over = over;
      exact = (λ t. test.0 ((none h.rest h.unit h.some h.left).0 t), λ m. (none h.rest h.unit h.some h.left).1 (test.1 m));
    }

-- restated for the body
pub split_high : (total high low m : ℕ) → high ≡ total / m → low ≡ total % m → total ≡ high * m + low
split_high total high low m eh el = rw (eh, el) (sym (div-add-mod' total m))

-- ---- the magnitude of an equal fraction
pub magnitude_same : (mode : ReadMode) (a b : Fraction) (frac : ℕ) (ulps : Ulps) → 0 < a.den → 0 < b.den → IsSameNumber a b → IsMagnitude mode a frac ulps → IsMagnitude mode b frac ulps
magnitude_same mode a b frac ulps pa pb same h =
    let cross = times a.num a.den b.num b.den (2 ^ frac) same in
    record {
      high = h.high;
      to = rounded_same mode false (a.num * 2 ^ frac) a.den (b.num * 2 ^ frac) b.den (h.high * 2 ^ 64 + ulps.low) pa pb cross h.to;
      over = h.over;
      exact = (λ t. multiple_same (a.num * 2 ^ frac) a.den (b.num * 2 ^ frac) b.den pa cross (h.exact.0 t), λ m. h.exact.1 (multiple_same (b.num * 2 ^ frac) b.den (a.num * 2 ^ frac) a.den pb (sym cross) m));
    }
  where
    times : (n d m k t : ℕ) → n * k ≡ m * d → n * t * k ≡ m * t * d
    times n d m k t e = omega (arith, ap (λ x. x * t) e)

-- ---- decimals
ten_pos : (n : ℕ) → 0 < 10 ^ n
ten_pos n = one-le-pow n 10 (omega arith)

pub scaled_den : (digits : ℕ) (z : ℤ) → 0 < (scaled digits 1 10 z).den
scaled_den digits (pos x) = omega arith
scaled_den digits (negsuc x) = mul-pos (omega arith) (ten_pos (suc x))

pub whole_same : (w f p digits : ℕ) (z : ℤ) → pos 0 <ℤ z → w ≡ digits * 10 ^ up_of z → f ≡ 0 → p ≡ 0 → IsSameNumber (record { num = w * 10 ^ p + f; den = 10 ^ p }) (scaled digits 1 10 z)
whole_same w f p digits (pos x) l ew ef ep = rw (ep, ef) (omega (arith, ew))
whole_same w f p digits (negsuc x) l ew ef ep = absurd (omega (arith, ints))

pub plain_same : (w f p : ℕ) → IsSameNumber (record { num = w * 10 ^ p + f; den = 10 ^ p }) (scaled (w * 10 ^ p + f) 1 10 (pos 0 -ℤ pos p))
plain_same w f zero = omega arith
plain_same w f (suc p) = let z : pos 0 -ℤ pos (suc p) ≡ negsuc p = omega (arith, ints) in rw z (omega arith)

pub thirteen_below : (f p : ℕ) → p ≤ 13 → f < 10 ^ p → f < 2 ^ 64
thirteen_below f p l b = let most : 10 ^ p ≤ 10 ^ 13 = pow-le-pow_right (omega arith) l in omega (arith, most, b)

pub fraction_same : (w f p digits : ℕ) (z : ℤ) → (pos 0 <ℤ z → ⊥) → w * 10 ^ down_of z + f ≡ digits → p ≡ down_of z → IsSameNumber (record { num = w * 10 ^ p + f; den = 10 ^ p }) (scaled digits 1 10 z)
fraction_same w f p digits (pos zero) l e ep = rw ep (omega (arith, e))
fraction_same w f p digits (pos (suc x)) l e ep = absurd (l (omega (arith, ints)))
fraction_same w f p digits (negsuc x) l e ep = rw ep (omega (arith, ap (λ y. y * (10 ^ suc x)) e))

-- ---- powers of two
pub whole_to : (mode : ReadMode) (q : ℕ) → IsRounded mode false (q * 1 + 0) 1 (q + 0)
whole_to mode q =
    let whole : q * 1 ≡ q * 1 + 0 = omega arith in
    let none : q ≡ q + 0 = omega arith in
    subst (λ n. IsRounded mode false n 1 (q + 0)) whole (subst (λ n. IsRounded mode false (q * 1) 1 n) none (rounded_exact mode false q 1 (omega arith)))

pub raised : (mode : ReadMode) (num den frac q high : ℕ) (ulps : Ulps) → 0 < den → q * den ≡ num * 2 ^ frac → ulps.is_exact ≡ true → q ≡ high * 2 ^ 64 + ulps.low → (IsTrue ulps.has_high_bits ↔ (0 < high)) → IsMagnitude mode (record { num = num; den = den }) frac ulps
raised mode num den frac q high ulps some e exact split over = magnitude_is_rounded mode num den frac q 0 high Zero ulps some (record { rest = 0; unit = 1; some = omega arith; split = omega (arith, e); left = refl }) (whole_to mode q) (λ y d p left. (λ t. left, λ z. exact)) (let z : q + 0 ≡ q = omega arith in z ∙ split) over

pub far_up : (digits by : ℕ) → 64 ≤ by → digits * 2 ^ by ≡ digits * 2 ^ (by - 64) * 2 ^ 64 + 0
far_up digits by l =
    let p : 2 ^ by ≡ 2 ^ (by - 64) * 2 ^ 64 = ap (λ i. 2 ^ i) (let z : by ≡ (by - 64) + 64 = omega arith in z) ∙ pow-add 2 (by - 64) 64 in
    omega (arith, ap (λ x. digits * x) p)

pub far_some : (digits by : ℕ) (b : Bool) → (IsTrue b ↔ (0 < digits)) → IsTrue b ↔ (0 < digits * 2 ^ (by - 64))
far_some digits by b e = (λ t. mul-pos (e.0 t) (pow_pos (by - 64)), λ l. e.1 (some digits (2 ^ (by - 64)) l))
  where
    some : (d t : ℕ) → 0 < d * t → 0 < d
    some zero t l = absurd (omega (arith, l))
    some (suc d) t l = omega arith

pub far_below : (digits by : ℕ) → 65 ≤ by → digits < 2 ^ 64 → 2 * digits < 2 ^ by
far_below digits by l s = let p : 2 ^ 65 ≤ 2 ^ by = pow-le-pow_right {n = 2} (omega arith) l in omega (arith, p, s)

pub lowered_split : (num den frac digits by count rest : ℕ) (lost : LostFraction) → digits ≡ count * 2 ^ by + rest → IsLostFraction lost rest (2 ^ by) → digits * den ≡ num * 2 ^ frac * 2 ^ by → IsSplitUlps num den frac count lost
lowered_split num den frac digits by count rest lost e left same = record {
  rest = rest;
  unit = 2 ^ by;
  some = pow_pos by;
  split = sym same ∙ ap (λ x. x * den) e;
  left = left;
}

pub cross_up : (digits up down num den frac : ℕ) → down ≤ up → digits * 2 ^ up * den ≡ num * 2 ^ frac * 2 ^ down → digits * 2 ^ (up - down) * den ≡ num * 2 ^ frac
cross_up digits up down num den frac l e =
    let p : 2 ^ up ≡ 2 ^ (up - down) * 2 ^ down = ap (λ i. 2 ^ i) (let z : up ≡ (up - down) + down = omega arith in z) ∙ pow-add 2 (up - down) down in
    cancel_eq (digits * 2 ^ (up - down) * den) (num * 2 ^ frac) (2 ^ down) (pow_pos down) ((omega arith) ∙ (rw p at e))

pub cross_down : (digits up down num den frac : ℕ) → up ≤ down → digits * 2 ^ up * den ≡ num * 2 ^ frac * 2 ^ down → digits * den ≡ num * 2 ^ frac * 2 ^ (down - up)
cross_down digits up down num den frac l e =
    let p : 2 ^ down ≡ 2 ^ (down - up) * 2 ^ up = ap (λ i. 2 ^ i) (let z : down ≡ (down - up) + up = omega arith in z) ∙ pow-add 2 (down - up) up in
    cancel_eq (digits * den) (num * 2 ^ frac * 2 ^ (down - up)) (2 ^ up) (pow_pos up) ((omega arith) ∙ (rw p at e) ∙ two (num * 2 ^ frac) (2 ^ (down - up)) (2 ^ up))
  where
    two : (n a u : ℕ) → n * (a * u) ≡ n * a * u
    two n a u = omega arith

pub cross_frac : (digits up down num den frac : ℕ) → digits * 2 ^ up * den ≡ num * 2 ^ down → digits * 2 ^ (up + frac) * den ≡ num * 2 ^ frac * 2 ^ down
cross_frac digits up down num den frac e = rw (pow-add 2 up frac) (omega (arith, ap (λ x. x * (2 ^ frac)) e))

-- a shift up and a shift down as one
pub net_up : (digits up down num den frac by : ℕ) → digits * 2 ^ up * den ≡ num * 2 ^ down → by + down ≡ up + frac → digits * 2 ^ by * den ≡ num * 2 ^ frac
net_up digits up down num den frac by e k =
    let same : up + frac - down ≡ by = omega arith in
    subst (λ i. digits * 2 ^ i * den ≡ num * 2 ^ frac) same (cross_up digits (up + frac) down num den frac (omega arith) (cross_frac digits up down num den frac e))

pub net_down : (digits up down num den frac by : ℕ) → digits * 2 ^ up * den ≡ num * 2 ^ down → by + (up + frac) ≡ down → digits * den ≡ num * 2 ^ frac * 2 ^ by
net_down digits up down num den frac by e k =
    let same : down - (up + frac) ≡ by = omega arith in
    subst (λ i. digits * den ≡ num * 2 ^ frac * 2 ^ i) same (cross_down digits (up + frac) down num den frac (omega arith) (cross_frac digits up down num den frac e))

-- ---- the power of two of a numeral
parts_of : (z : ℤ) → z ≡ pos (up_of z) -ℤ pos (down_of z)
parts_of (pos x) = omega (arith, ints)
parts_of (negsuc x) = omega (arith, ints)

net_by_two : (bits places u d : ℕ) (x : ℤ) → bits ≤ 4 → x ≡ pos u -ℤ pos d → (pos 1 *ℤ x) -ℤ (pos bits *ℤ pos places) ≡ pos u -ℤ pos (bits * places + d)
net_by_two (suc (suc (suc (suc (suc bits))))) places u d x l e = absurd (omega arith)
net_by_two y places u d x l e = omega (arith, ints)

net_by_base : (bits places u d : ℕ) (x : ℤ) → bits ≤ 4 → x -ℤ pos places ≡ pos u -ℤ pos d → (pos bits *ℤ x) -ℤ (pos bits *ℤ pos places) ≡ pos (bits * u) -ℤ pos (bits * d)
net_by_base (suc (suc (suc (suc (suc bits))))) places u d x l e = absurd (omega arith)
net_by_base y places u d x l e = omega (arith, ints)

pub net_is : (bits places unit : ℕ) (x : ℤ) (two : Bool) → bits ≤ 4 → unit ≡ cond two 1 bits → (pos unit *ℤ x) -ℤ (pos bits *ℤ pos places) ≡ pos (ups bits places x two) -ℤ pos (downs bits places x two)
net_is bits places unit x true l e = rw e (net_by_two bits places (up_of x) (down_of x) x l (parts_of x))
net_is bits places unit x false l e = rw e (net_by_base bits places (up_of (x -ℤ pos places)) (down_of (x -ℤ pos places)) x l (parts_of (x -ℤ pos places)))

scaled_two : (digits bits b : ℕ) (z : ℤ) → b ≡ 2 ^ bits → digits * 2 ^ (bits * up_of z) * (scaled digits 1 b z).den ≡ (scaled digits 1 b z).num * 2 ^ (bits * down_of z)
scaled_two digits bits b (pos x) e = rw (e, pow-mul 2 bits x) (rw (ap (λ i. 2 ^ i) (let z : bits * 0 ≡ 0 = omega arith in z)) (omega arith))
scaled_two digits bits b (negsuc x) e = rw (e, pow-mul 2 bits (suc x)) (plain (2 ^ (bits * suc x)) (2 ^ (bits * 0)) (ap (λ i. 2 ^ i) (let z : bits * 0 ≡ 0 = omega arith in z)))
  where
    plain : (t u : ℕ) → u ≡ 2 ^ 0 → digits * u * (1 * t) ≡ digits * t
    plain t u k = rw k (omega arith)

placed_two : (digits bits b places : ℕ) (z : ℤ) → b ≡ 2 ^ bits → digits * 2 ^ up_of z * (scaled digits (b ^ places) 2 z).den ≡ (scaled digits (b ^ places) 2 z).num * 2 ^ (bits * places + down_of z)
placed_two digits bits b places (pos x) e = rw (e, pow-mul 2 bits places, pow-add 2 (bits * places) 0) (omega arith)
placed_two digits bits b places (negsuc x) e = rw (e, pow-mul 2 bits places, pow-add 2 (bits * places) (suc x)) (plain (2 ^ suc x) (2 ^ (bits * places)))
  where
    plain : (t u : ℕ) → digits * 2 ^ 0 * (u * t) ≡ digits * (u * t)
    plain t u = omega arith

pub placed_value : (r : Radix) (bits digits places : ℕ) (exponent : ℤ) (two : Bool) → base r ≡ 2 ^ bits → digits * 2 ^ ups bits places exponent two * (placed_magnitude r digits places exponent two).den ≡ (placed_magnitude r digits places exponent two).num * 2 ^ downs bits places exponent two
placed_value r bits digits places exponent false e = scaled_two digits bits (base r) (exponent -ℤ pos places) e
placed_value r bits digits places exponent true e = placed_two digits bits (base r) places exponent e

-- ---- a decimal numeral has no separator of powers of two
never_two : (e : Option Exponent) → is_power_of_two Dec e ≡ false
never_two None = refl
never_two (Some e) = refl

pub decimal_value : (r : Radix) (p : Parts) (negative : Bool) (whole fraction places : ℕ) (exponent : ℤ) (two : Bool) → r ≡ Dec → IsShortNumeral r p negative whole fraction places exponent two → magnitude r p ≡ scaled (whole * 10 ^ places + fraction) 1 10 (exponent -ℤ pos places)
decimal_value r p negative whole fraction places exponent two e h =
    let none : two ≡ false = h.separator ∙ subst (λ x. is_power_of_two x p.exponent ≡ false) (sym e) (never_two p.exponent) in
    h.value ∙ ap (placed_magnitude r (whole * base r ^ places + fraction) places exponent) none ∙ ap (λ x. placed_magnitude x (whole * base x ^ places + fraction) places exponent false) e

-- ---- digits that fit 64 bits
pub word_room : (bits places whole fraction : ℕ) → bits ≤ 4 → whole * (2 ^ bits) ^ places + fraction < (2 ^ bits) ^ 16 → whole * 2 ^ (bits * places) + fraction < 2 ^ 64
word_room bits places whole fraction l h =
    let most : bits * 16 ≤ 64 = omega arith in
    let room : 2 ^ (bits * 16) ≤ 2 ^ 64 = pow-le-pow_right {n = 2} (omega arith) most in
    let fits : whole * 2 ^ (bits * places) + fraction < 2 ^ (bits * 16) = rw (pow-mul 2 bits places, pow-mul 2 bits 16) at h in
    omega (arith, fits, room)

-- n / d is below x exactly if n is below x * d
pub above_quotient : (x n d : ℕ) → 0 < d → (n / d < x) ↔ (n < x * d)
above_quotient x n d some =
    let parts : n ≡ n / d * d + n % d = sym (div-add-mod' n d) in
    let rest : n % d < d = mod-lt n some in
    (λ l. let more : (n / d + 1) * d ≤ x * d = mul-le-mul_right d (omega arith) in omega (arith, parts, rest, more), λ l. cancel (n / d) (n % d) (omega (arith, parts, rest, l)))
  where
    cancel : (q r : ℕ) → q * d + r < x * d → q < x
    cancel q r l = grind (arith, l)

pub word_up : (digits bits : ℕ) → digits * 2 ^ bits ≡ digits * 2 ^ bits / 2 ^ 64 * 2 ^ 64 + digits * 2 ^ bits % 2 ^ 64
word_up digits bits = sym (div-add-mod' (digits * 2 ^ bits) (2 ^ 64))

pub word_over : (digits bits : ℕ) (b : Bool) → (IsTrue b ↔ (18446744073709551615 / 2 ^ bits < digits)) → IsTrue b ↔ (0 < digits * 2 ^ bits / 2 ^ 64)
word_over digits bits b e =
    let above = above_quotient digits 18446744073709551615 (2 ^ bits) (pow_pos bits) in
    (λ t. let l = above.0 (e.0 t) in omega (arith, l), λ l. e.1 (above.1 (omega (arith, l))))
