-- Whether the error of a numeral is above a bound.
use Rattle.std.proofs.Common.{◌≡◌, ℕ, zero, suc, ◌+◌, ◌-◌, ◌*◌, ◌^◌, ◌<◌, ◌≤◌, Bool, true, false, List, [], ◌∷◌, length, refl, ap, subst, arith, mul-le-mul_right, mul-le-mul_left, pow_pos}
use Rattle.std.specs.Int.Digits.{number_from_digits}
use Rattle.std.proofs.Math.Nat.{one-le-pow, pow-le-pow_right}
use Rattle.fixed_bits.specs.Nearest.{distance}
use Rattle.fixed_bits.specs.declared.mode.ReadMode.{ReadMode}
use Rattle.fixed_numeral.proofs.Public.{magnitude_pos}
use Rattle.fixed_numeral.specs.Numeral.{Parts, HasNumeral, IsNumeral, base, is_minus}
use Rattle.fixed_numeral.specs.Place.{NoLeadingZero}
use Rattle.fixed_numeral.specs.Scanned.{IsScanned}
use Rattle.fixed_numeral.specs.Value.{magnitude}
use Rattle.fixed_numeral.specs.declared.radix.Radix.{Radix}
use Rattle.fixed_error.specs.ErrorSize.{HasErrorAbove, HasErrorWithin, IsReadWithin, error_size}
use Rattle.fixed_error.specs.Inner.Gap.{IsGap, greater_part, less_part, sum_of}
use Rattle.fixed_error.specs.Inner.Sums.{Decides, IsSmallSum, padded, sum_value}
use Rattle.fixed_error.specs.declared.gap.Gap.{Gap}
use Rattle.fixed_error.proofs.GapLemmas.{at_most_by, base_least, cancel_le, close, greater_by, in_ulps_of, places_of}
use Rattle.fixed_error.proofs.SumLemmas.{number_cons, power_split}

-- ---- a bound of 1 or more
far : (x y d e u : ℕ) → x < d → e ≤ y → 0 < u → x * e ≤ y * (u * d)
far x y d e u less more some =
    let a : x * e ≤ d * e = mul-le-mul_right e (omega (arith, less)) in
    let b : d * e ≤ d * y = mul-le-mul_left d more in
    let c : 1 * (y * d) ≤ u * (y * d) = mul-le-mul_right (y * d) (omega (arith, some)) in
    omega (arith, a, b, c)

near_size : (num den q : ℕ) → num < q * den + den → q * den < num + den → distance num (q * den) < den
near_size num den q a b = omega (arith, a, b)

whole_some : (b x : ℕ) (xs : List ℕ) → 1 ≤ b → NoLeadingZero (x ∷ xs) → 1 ≤ number_from_digits b (x ∷ xs)
whole_some b x xs some leading = by x refl
  where
    by : (d : ℕ) → x ≡ d → 1 ≤ number_from_digits b (x ∷ xs)
    by zero e = absurd (leading xs (ap (λ y. y ∷ xs) e))
    by (suc k) e =
        let p : 1 ≤ b ^ length xs = one-le-pow (length xs) b some in
        let m : 1 * b ^ length xs ≤ x * b ^ length xs = mul-le-mul_right (b ^ length xs) (omega (arith, e)) in
        omega (arith, number_cons b x xs, p, m)

one_or_more : (num den w n power unit : ℕ) → 0 < power → 1 ≤ w → 1 ≤ unit → num * power ≡ (w * power + n) * unit * den → den ≤ num
one_or_more num den w n power unit hp hw hu e =
    let a : 1 * power ≤ w * power = mul-le-mul_right power hw in
    let b : 1 * (power * den) ≤ unit * (power * den) = mul-le-mul_right (power * den) hu in
    let c : power * (unit * den) ≤ (w * power + n) * (unit * den) = mul-le-mul_right (unit * den) (omega (arith, a)) in
    cancel_le den num power hp (omega (arith, b, c, e))

pub whole_bound : (mode : ReadMode) (r : Radix) (f : ℕ) (bytes bound : List ℕ) (negative : Bool) (whole fraction : List ℕ) (s : ℕ) → IsReadWithin mode r f bytes → (n : IsNumeral r bound) → ((p : Parts) → HasNumeral r bound p → IsScanned r p negative whole fraction s)
    → (whole ≡ [] → ⊥) → HasErrorWithin mode r f bytes bound
whole_bound mode r f bytes bound negative [] fraction s w n scanned some = absurd (some refl)
whole_bound mode r f bytes bound negative (x ∷ xs) fraction s w n scanned some =
    let num : ℕ = (magnitude r w.parts).num * 2 ^ f in
    let den : ℕ = (magnitude r w.parts).den in
    let c = close mode (is_minus w.parts.sign) num den w.read.ulps (magnitude_pos r w.parts) w.read.rounded in
    let i = in_ulps_of r n.0 0 negative (x ∷ xs) fraction s (scanned n.0 n.1) in
    let p : 1 ≤ base r ^ length fraction = one-le-pow (length fraction) (base r) (base_least r) in
    let unit : 0 < 2 ^ (0 + s) = pow_pos (0 + s) in
    let more : (magnitude r n.0).den ≤ (magnitude r n.0).num * 2 ^ 0 = one_or_more ((magnitude r n.0).num * 2 ^ 0) (magnitude r n.0).den (number_from_digits (base r) (x ∷ xs)) (number_from_digits (base r) fraction) (base r ^ length fraction) (2 ^ (0 + s)) (omega (arith, p)) (whole_some (base r) x xs (base_least r) (scanned n.0 n.1).leading) (omega (arith, unit)) i.number in
    record {
      size = error_size (magnitude r w.parts) f w.read.ulps;
      has_size = record { parts = w.parts; numeral = w.numeral; number = w.number; read = w.read; size_is = refl };
      bound_parts = n.0;
      bound_numeral = n.1;
      at_most = far (distance num (w.read.ulps * den)) (magnitude r n.0).num den (magnitude r n.0).den (2 ^ f) (near_size num den w.read.ulps c.above c.below) (omega (arith, more)) (pow_pos f);
    }

-- ---- a bound below 1
-- the bound is `t` / `b` ulps
record IsBoundBy (num den b t : ℕ) : Type 0 where
  same : num * b ≡ t * den

bound_by : (num den n power c b x unit : ℕ) → num * power ≡ (0 * power + n) * unit * den → b ≡ power * c → x ≡ n * c → IsBoundBy num den b (unit * x)
bound_by num den n power c b x unit e eb ex =
    let m : num * power * c ≡ (0 * power + n) * unit * den * c = ap (λ t. t * c) e in
    let nb : num * b ≡ num * (power * c) = ap (λ t. num * t) eb in
    let ux : unit * x * den ≡ unit * (n * c) * den = ap (λ t. unit * t * den) ex in
    record { same = omega (arith, m, nb, ux) }

bound_places : (r : Radix) (f n : ℕ) (p : Parts) (negative : Bool) (fraction : List ℕ) (s : ℕ) → IsScanned r p negative [] fraction s → length fraction ≤ n → IsBoundBy ((magnitude r p).num * 2 ^ f) (magnitude r p).den (base r ^ n) (2 ^ (f + s) * padded (base r) n fraction)
unfolding padded
bound_places r f n p negative fraction s scanned h =
    let i = in_ulps_of r p f negative [] fraction s scanned in
    bound_by ((magnitude r p).num * 2 ^ f) (magnitude r p).den (number_from_digits (base r) fraction) (base r ^ length fraction) (base r ^ (n - length fraction)) (base r ^ n) _ (2 ^ (f + s)) i.number (power_split (base r) (length fraction) n h) refl

record AreBoundSums (s t left right : ℕ) : Type 0 where
  same : left + t ≡ s + right

bound_sums_of : (lw lf gw gf s b x z u : ℕ) → s + lw * b + lf * x ≡ gw * b + gf * x → AreBoundSums s (u * z) ((gw + 0) * b + (gf * x + 0 * z)) ((lw + 0) * b + (lf * x + u * z))
bound_sums_of lw lf gw gf s b x z u e = record { same = omega (arith, e) }

bound_sums : (b n : ℕ) (one other : List ℕ) (g : Gap) (s u : ℕ) → (s + (less_part g).whole * b ^ n + (less_part g).factor * padded b n one ≡ (greater_part g).whole * b ^ n + (greater_part g).factor * padded b n one)
    → AreBoundSums s (u * padded b n other) (sum_value b n one other (sum_of (greater_part g) (record { whole = 0; factor = 0 }))) (sum_value b n one other (sum_of (less_part g) (record { whole = 0; factor = u })))
unfolding sum_value
bound_sums b n one other g s u e = bound_sums_of (less_part g).whole (less_part g).factor (greater_part g).whole (greater_part g).factor s (b ^ n) (padded b n one) (padded b n other) u e

small_by : (unit whole e : ℕ) (up : Bool) → unit ≤ 2 ^ 67 → whole ≤ 2 ^ 67 → 2 ^ e ≤ 2 ^ 67 → IsSmallSum (sum_of (less_part (record { unit = unit; whole = whole; is_rounded_up = up })) (record { whole = 0; factor = 2 ^ e }))
small_by unit whole e true h k l = record { whole = omega arith; one = h; other = l }
small_by unit whole e false h k l = record { whole = omega (arith, k); one = omega arith; other = l }

pub small_bound : (g : Gap) (e : ℕ) → g.unit ≤ 2 ^ 67 → g.whole ≤ 2 ^ 67 → e ≤ 67 → IsSmallSum (sum_of (less_part g) (record { whole = 0; factor = 2 ^ e }))
small_bound g e h k most = small_by g.unit g.whole e g.is_rounded_up h k (pow-le-pow_right (omega arith) most)

-- the greater part of one gap and the lesser of another
greater_sum_by : (u w v x : ℕ) (up down : Bool) → u ≤ 2 ^ 67 → w ≤ 2 ^ 67 → v ≤ 2 ^ 67 → x ≤ 2 ^ 67
    → IsSmallSum (sum_of (greater_part (record { unit = u; whole = w; is_rounded_up = up })) (less_part (record { unit = v; whole = x; is_rounded_up = down })))
greater_sum_by u w v x true true h k l m = record { whole = omega (arith, k); one = omega arith; other = l }
greater_sum_by u w v x true false h k l m = record { whole = omega (arith, k, m); one = omega arith; other = omega arith }
greater_sum_by u w v x false true h k l m = record { whole = omega arith; one = h; other = l }
greater_sum_by u w v x false false h k l m = record { whole = omega (arith, m); one = h; other = omega arith }

pub greater_sum_small : (a b : Gap) → a.unit ≤ 2 ^ 67 → a.whole ≤ 2 ^ 67 → b.unit ≤ 2 ^ 67 → b.whole ≤ 2 ^ 67 → IsSmallSum (sum_of (greater_part a) (less_part b))
greater_sum_small a b h k l m = greater_sum_by a.unit a.whole b.unit b.whole a.is_rounded_up b.is_rounded_up h k l m

-- the lesser part of one gap and the greater of another: the same with the factors the other way round
pub less_sum_small : (a b : Gap) → a.unit ≤ 2 ^ 67 → a.whole ≤ 2 ^ 67 → b.unit ≤ 2 ^ 67 → b.whole ≤ 2 ^ 67 → IsSmallSum (sum_of (less_part a) (greater_part b))
less_sum_small a b h k l m =
    let s = greater_sum_small b a l m h k in
    record { whole = omega (arith, s.whole); one = s.other; other = s.one }

above_of : (d den m e u : ℕ) → m * u * (1 * den) < d * (1 * e) → m * (u * den) < d * e
above_of d den m e u h = omega (arith, h)

within_of : (d den m e u : ℕ) → d * (1 * e) ≤ m * u * (1 * den) → d * e ≤ m * (u * den)
within_of d den m e u h = omega (arith, h)

-- the comparison of both sums decides whether the error is above the bound or within it
pub error_above : (mode : ReadMode) (r : Radix) (f : ℕ) (bytes bound ones fraction : List ℕ) (g : Gap) (negative : Bool) (whole : List ℕ) (s : ℕ) (result : Bool) → IsGap mode r f bytes ones g → (n : IsNumeral r bound) → ((p : Parts) → HasNumeral r bound p → IsScanned r p negative whole fraction s)
    → whole ≡ [] → Decides (base r) ones fraction (sum_of (greater_part g) (record { whole = 0; factor = 0 })) (sum_of (less_part g) (record { whole = 0; factor = 2 ^ (f + s) })) result → result ≡ true → HasErrorAbove mode r f bytes bound
error_above mode r f bytes bound ones fraction g negative whole s result x n scanned none d is =
    let places : ℕ = d.places in
    let u = places_of mode r f places bytes ones g x d.one_within in
    let v = bound_places r f places n.0 negative fraction s (subst (λ w. IsScanned r n.0 negative w fraction s) none (scanned n.0 n.1)) d.other_within in
    let both = bound_sums (base r) places ones fraction g u.0 (2 ^ (f + s)) u.1.high in
    let less : 2 ^ (f + s) * padded (base r) places fraction < u.0 = omega (arith, both.same, d.greater is) in
    record {
      size = error_size (magnitude r x.parts) f x.read.ulps;
      has_size = record { parts = x.parts; numeral = x.numeral; number = x.number; read = x.read; size_is = refl };
      bound_parts = n.0;
      bound_numeral = n.1;
      above = above_of (distance ((magnitude r x.parts).num * 2 ^ f) (x.read.ulps * (magnitude r x.parts).den)) (magnitude r x.parts).den (magnitude r n.0).num (magnitude r n.0).den (2 ^ f)
          (greater_by (distance ((magnitude r x.parts).num * 2 ^ f) (x.read.ulps * (magnitude r x.parts).den)) ((magnitude r n.0).num * 2 ^ f) (magnitude r x.parts).den (magnitude r n.0).den u.0 (2 ^ (f + s) * padded (base r) places fraction) (base r ^ places) 1 (magnitude_pos r x.parts) (magnitude_pos r n.0) (omega arith) u.1.error v.same less);
    }

pub error_within : (mode : ReadMode) (r : Radix) (f : ℕ) (bytes bound ones fraction : List ℕ) (g : Gap) (negative : Bool) (whole : List ℕ) (s : ℕ) (result : Bool) → IsGap mode r f bytes ones g → (n : IsNumeral r bound) → ((p : Parts) → HasNumeral r bound p → IsScanned r p negative whole fraction s)
    → whole ≡ [] → Decides (base r) ones fraction (sum_of (greater_part g) (record { whole = 0; factor = 0 })) (sum_of (less_part g) (record { whole = 0; factor = 2 ^ (f + s) })) result → result ≡ false → HasErrorWithin mode r f bytes bound
error_within mode r f bytes bound ones fraction g negative whole s result x n scanned none d is =
    let places : ℕ = d.places in
    let u = places_of mode r f places bytes ones g x d.one_within in
    let v = bound_places r f places n.0 negative fraction s (subst (λ w. IsScanned r n.0 negative w fraction s) none (scanned n.0 n.1)) d.other_within in
    let both = bound_sums (base r) places ones fraction g u.0 (2 ^ (f + s)) u.1.high in
    let less : u.0 ≤ 2 ^ (f + s) * padded (base r) places fraction = omega (arith, both.same, d.not is) in
    let some : 1 ≤ base r ^ places = one-le-pow places (base r) (base_least r) in
    record {
      size = error_size (magnitude r x.parts) f x.read.ulps;
      has_size = record { parts = x.parts; numeral = x.numeral; number = x.number; read = x.read; size_is = refl };
      bound_parts = n.0;
      bound_numeral = n.1;
      at_most = within_of (distance ((magnitude r x.parts).num * 2 ^ f) (x.read.ulps * (magnitude r x.parts).den)) (magnitude r x.parts).den (magnitude r n.0).num (magnitude r n.0).den (2 ^ f)
          (at_most_by (distance ((magnitude r x.parts).num * 2 ^ f) (x.read.ulps * (magnitude r x.parts).den)) ((magnitude r n.0).num * 2 ^ f) (magnitude r x.parts).den (magnitude r n.0).den u.0 (2 ^ (f + s) * padded (base r) places fraction) (base r ^ places) 1 (omega (arith, some)) u.1.error v.same less);
    }
