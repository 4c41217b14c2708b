-- The error of a numeral, cut to whole parts of an ulp.
use Rattle.std.proofs.Common.{◌≡◌, ◌↔◌, ℕ, zero, suc, ◌+◌, ◌-◌, ◌*◌, ◌/◌, ◌%◌, ◌^◌, ◌<◌, ◌≤◌, Bool, true, false, IsTrue, ◌||◌, List, length, drop, take, refl, sym, ap, ◌∙◌, subst, arith, ⊎_elim, mul-le-mul_right, mul-le-mul_left, pos, if◌then◌else◌}
use Rattle.std.specs.Prelude.{min}
use Rattle.std.specs.Int.{from_bool}
use Rattle.std.specs.Int.Digits.{AllBelowBase, number_from_digits}
use Rattle.std.proofs.Math.Nat.{one-le-pow, pow-le-pow_right}
use Rattle.std.proofs.lemmas.Bool.{cases_lt, false≢true}
use Rattle.std.proofs.lemmas.Bool.Decides.{nat_tests}
use Rattle.std.proofs.lemmas.Int.Digits.{number_lt}
use Rattle.std.proofs.lemmas.List.{take-append-drop}
use Rattle.fixed_bits.specs.Nearest.{distance}
use Rattle.fixed_bits.specs.Rounded.{IsNotAbove}
use Rattle.fixed_bits.specs.declared.mode.ReadMode.{ReadMode}
use Rattle.fixed_bits.specs.declared.mode.ReadMode.TheVariants.{TowardsZero}
use Rattle.fixed_numeral.proofs.Public.{magnitude_pos, number_append}
use Rattle.fixed_numeral.specs.Numeral.{Parts, HasNumeral, base, is_minus}
use Rattle.fixed_numeral.specs.Scanned.{IsScanned, exponent_unit}
use Rattle.fixed_numeral.specs.Value.{magnitude}
use Rattle.fixed_numeral.specs.declared.radix.Radix.{Radix}
use Rattle.fixed_numeral.specs.declared.radix.Radix.TheVariants.{Bin, Oct, Dec, Hex}
use Rattle.fixed_numeral.specs.declared.short.ShortNumeral.{ShortNumeral}
use Rattle.fixed_error.specs.Cut.{IsCutError, cut_parts}
use Rattle.fixed_error.specs.ErrorSize.{HasSteps, IsReadWithin}
use Rattle.fixed_error.specs.Errors.{block}
use Rattle.fixed_error.specs.Inner.Cut.{IsCut, IsCutAbove, IsSigned}
use Rattle.fixed_error.specs.Inner.Rest.{first_number}
use Rattle.fixed_error.specs.Inner.Sums.{Decides, padded, sum_value}
use Rattle.fixed_error.specs.Short.{IsShortRead}
use Rattle.fixed_error.specs.declared.cut.CutError.{CutError}
use Rattle.fixed_error.proofs.GapLemmas.{AreAround, around, base_least, cancel_le, cancel_lt, close, in_ulps_of, shift_small}
use Rattle.fixed_error.proofs.RestLemmas.{block_is, cancel_eq, digits_are}
use Rattle.fixed_error.proofs.ShortLemmas.{decimal_places}
use Rattle.fixed_error.proofs.SumLemmas.{power_split}

-- ---- a division, rounded up
pub divided : (u a c p : ℕ) → 0 < p → (u * a / p + (u * a % p * p + u * c) / (p * p)) * (p * p) + (u * a % p * p + u * c) % (p * p) ≡ u * (a * p + c)
divided u a c p some =
    let m : 1 * p ≤ p * p = mul-le-mul_right p (omega (arith, some)) in
    let square : 0 < p * p = omega (arith, m, some) in
    by (u * a / p) (u * a % p) ((u * a % p * p + u * c) / (p * p)) ((u * a % p * p + u * c) % (p * p)) (omega (arith, some)) (omega (arith, square))
  where
    by : (q r k rest : ℕ) → u * a ≡ q * p + r → r * p + u * c ≡ k * (p * p) + rest → (q + k) * (p * p) + rest ≡ u * (a * p + c)
    by q r k rest e f = let x : u * a * p ≡ (q * p + r) * p = ap (λ t. t * p) e in omega (arith, x, f)

blocks_below : (a c p : ℕ) → a < p → c < p → a * p + c < p * p
blocks_below a c p h k = let m : (a + 1) * p ≤ p * p = mul-le-mul_right p (omega (arith, h)) in omega (arith, m, k)

pub quotient_most : (u a c p w rest : ℕ) → a < p → c < p → w * (p * p) + rest ≡ u * (a * p + c) → w ≤ u
quotient_most u a c p w rest h k e =
    let less = blocks_below a c p h k in
    let m : u * (a * p + c) ≤ u * (p * p) = mul-le-mul_left u (omega (arith, less)) in
    cancel_le w u (p * p) (omega (arith, less)) (omega (arith, m, e))

pub quotient_less : (u a c p w rest : ℕ) → a < p → c < p → 0 < rest → w * (p * p) + rest ≡ u * (a * p + c) → w < u
quotient_less u a c p w rest h k some e =
    let less = blocks_below a c p h k in
    let m : u * (a * p + c) ≤ u * (p * p) = mul-le-mul_left u (omega (arith, less)) in
    cancel_lt w u (p * p) (omega (arith, m, e, some))

pub rest_below : (n p : ℕ) → 0 < p → n % (p * p) < p * p
rest_below n p some =
    let m : 1 * p ≤ p * p = mul-le-mul_right p (omega (arith, some)) in
    let square : 0 < p * p = omega (arith, m, some) in
    omega (arith, square)

pub ceiled : (w s rest n : ℕ) → rest < s → w * s + rest ≡ n → (w + 1) * s ≡ n + (s - rest)
ceiled w s rest n less e = omega (arith, less, e)

-- ---- the order of a product of digits and a whole number
sums_are : (b n unit w : ℕ) (ds : List ℕ) → length ds ≤ n
    → (sum_value b n ds ds (record { whole = w; one = 0; other = 0 }) ≡ w * b ^ length ds * b ^ (n - length ds)) × (sum_value b n ds ds (record { whole = 0; one = unit; other = 0 }) ≡ unit * number_from_digits b ds * b ^ (n - length ds))
unfolding sum_value padded
sums_are b n unit w ds within =
    let split : w * b ^ n ≡ w * (b ^ length ds * b ^ (n - length ds)) = ap (λ t. w * t) (power_split b (length ds) n within) in
    (omega (arith, split), omega arith)

capped : (unit x f whole : ℕ) → unit ≤ 2 ^ 67 → x < f → (unit * x < whole * f → unit * x < min whole (2 ^ 68) * f) × ((min whole (2 ^ 68) * f < unit * x → whole * f < unit * x) × (min whole (2 ^ 68) * f ≤ whole * f))
capped unit x f whole most less =
    let a : unit * x ≤ 2 ^ 67 * x = mul-le-mul_right x most in
    ⊎_elim
    (λ (small : whole < 2 ^ 68).
    let e : min whole (2 ^ 68) ≡ whole = omega (arith, small) in
    let m : min whole (2 ^ 68) * f ≡ whole * f = ap (λ t. t * f) e in
    ((λ h. omega (arith, m, h)), ((λ h. omega (arith, m, h)), omega (arith, m))))
    (λ (great : 2 ^ 68 ≤ whole).
    let e : min whole (2 ^ 68) ≡ 2 ^ 68 = omega (arith, great) in
    let m : min whole (2 ^ 68) * f ≡ 2 ^ 68 * f = ap (λ t. t * f) e in
    let k : 2 ^ 68 * f ≤ whole * f = mul-le-mul_right f great in
    ((λ h. omega (arith, m, a, less)), ((λ h. absurd (omega (arith, m, h, a, less))), omega (arith, m, k))))
    (cases_lt whole (2 ^ 68))

either : (b : Bool) (A : Type 0) → (b ≡ true → A) → (b ≡ false → A) → A
either true A f g = f refl
either false A f g = g refl

pub order_less : (b unit whole : ℕ) (ds : List ℕ) (is : Bool) → 1 ≤ b → unit ≤ 2 ^ 67 → number_from_digits b ds < b ^ length ds
    → Decides b ds ds (record { whole = min whole (2 ^ 68); one = 0; other = 0 }) (record { whole = 0; one = unit; other = 0 }) is → IsTrue is ↔ (unit * number_from_digits b ds < whole * b ^ length ds)
order_less b unit whole ds is some most less d =
    let f : ℕ = b ^ length ds in
    let x : ℕ = number_from_digits b ds in
    let k : ℕ = b ^ (d.places - length ds) in
    let w : ℕ = min whole (2 ^ 68) in
    let k_some : 1 ≤ b ^ (d.places - length ds) = one-le-pow (d.places - length ds) b some in
    let s = sums_are b d.places unit w ds d.one_within in
    let cap = capped unit x f whole most less in (
      (λ yes. let g : unit * x < w * f = cancel_lt (unit * x) (w * f) k (omega (arith, d.greater yes, s.0, s.1)) in omega (arith, g, cap.1.1)),
      (λ h. either is (is ≡ true) (λ yes. yes) (λ no. let g : w * f ≤ unit * x = cancel_le (w * f) (unit * x) k (omega (arith, k_some)) (omega (arith, d.not no, s.0, s.1)) in absurd (omega (arith, g, cap.0 h)))),
    )

pub order_greater : (b unit whole : ℕ) (ds : List ℕ) (is : Bool) → 1 ≤ b → unit ≤ 2 ^ 67 → number_from_digits b ds < b ^ length ds
    → Decides b ds ds (record { whole = 0; one = unit; other = 0 }) (record { whole = min whole (2 ^ 68); one = 0; other = 0 }) is → IsTrue is ↔ (whole * b ^ length ds < unit * number_from_digits b ds)
order_greater b unit whole ds is some most less d =
    let f : ℕ = b ^ length ds in
    let x : ℕ = number_from_digits b ds in
    let k : ℕ = b ^ (d.places - length ds) in
    let w : ℕ = min whole (2 ^ 68) in
    let k_some : 1 ≤ b ^ (d.places - length ds) = one-le-pow (d.places - length ds) b some in
    let s = sums_are b d.places unit w ds d.one_within in
    let cap = capped unit x f whole most less in (
      (λ yes. cap.1.0 (cancel_lt (w * f) (unit * x) k (omega (arith, d.greater yes, s.0, s.1)))),
      (λ h. either is (is ≡ true) (λ yes. yes) (λ no. let g : unit * x ≤ w * f = cancel_le (unit * x) (w * f) k (omega (arith, k_some)) (omega (arith, d.not no, s.0, s.1)) in absurd (omega (arith, g, cap.1.1, h)))),
    )

-- ---- a product, cut
-- n / f is (N + z / k) / d, and w * d is u * N + t
record IsSplit (n f k z u t w d : ℕ) : Type 0 where
  sum : u * n * (d * k) + t * k * f ≡ w * (d * k) * f + u * z * f
  some_f : 0 < f
  some_k : 0 < k
  below_d : t < d
  below_z : u * z < d * k

split_of : (n f k z u N t w d : ℕ) → 0 < f → 0 < k → n * d * k ≡ (N * k + z) * f → w * d ≡ u * N + t → t < d → z < k → u ≤ d → IsSplit n f k z u t w d
split_of n f k z u N t w d some_f some_k digits whole less below most =
    let x : n * d * k * u ≡ (N * k + z) * f * u = ap (λ v. v * u) digits in
    let y : w * d * (k * f) ≡ (u * N + t) * (k * f) = ap (λ v. v * (k * f)) whole in
    let a : u * z ≤ d * z = mul-le-mul_right z most in
    let b : d * (z + 1) ≤ d * k = mul-le-mul_left d (omega (arith, below)) in
    record { sum = omega (arith, x, y); some_f = some_f; some_k = some_k; below_d = less; below_z = omega (arith, a, b, less) }

cut_less : (n f k z u t v w d : ℕ) → IsSplit n f k z u t w d → v + 1 ≡ w → u * z < t * k → (v * f < u * n) × (u * n < (v + 1) * f)
cut_less n f k z u t v w d h one less =
    let y : k * 1 ≤ k * f = mul-le-mul_left k (omega (arith, h.some_f)) in
    let some : 0 < k * f = omega (arith, y, h.some_k) in
    let a : (t + 1) * (k * f) ≤ d * (k * f) = mul-le-mul_right (k * f) (omega (arith, h.below_d)) in
    let b : (u * z + 1) * f ≤ t * k * f = mul-le-mul_right f (omega (arith, less)) in
    let e : (v + 1) * (d * k) * f ≡ w * (d * k) * f = ap (λ x. x * (d * k) * f) one in
    (cancel_lt (v * f) (u * n) (d * k) (omega (arith, h.sum, e, a, some)), cancel_lt (u * n) ((v + 1) * f) (d * k) (omega (arith, h.sum, e, b, h.some_f)))

cut_rest_most : (n f k z u t w d : ℕ) → IsSplit n f k z u t w d → u * n < (w + 1) * f
cut_rest_most n f k z u t w d h =
    let b : (u * z + 1) * f ≤ d * k * f = mul-le-mul_right f (omega (arith, h.below_z)) in
    cancel_lt (u * n) ((w + 1) * f) (d * k) (omega (arith, h.sum, b, h.some_f))

split_some : (n f k z u t w d : ℕ) → IsSplit n f k z u t w d → 0 < d * k
split_some n f k z u t w d h = omega (arith, h.below_z)

cut_same : (n f k z u t w d : ℕ) → IsSplit n f k z u t w d → u * z ≡ t * k → u * n ≡ w * f
cut_same n f k z u t w d h same =
    let b : u * z * f ≡ t * k * f = ap (λ x. x * f) same in
    cancel_eq (u * n) (w * f) (d * k) (split_some n f k z u t w d h) (omega (arith, h.sum, b))

cut_above : (n f k z u t w d : ℕ) → IsSplit n f k z u t w d → t * k < u * z → w * f < u * n
cut_above n f k z u t w d h more =
    let b : (t * k + 1) * f ≤ u * z * f = mul-le-mul_right f (omega (arith, more)) in
    cancel_lt (w * f) (u * n) (d * k) (omega (arith, h.sum, b, h.some_f))

not_that : (b : Bool) (a c : ℕ) → (IsTrue b ↔ (a < c)) → b ≡ false → c ≤ a
not_that b a c = grind (arith, nat_tests)

cut_by : (n f k z u t v w d : ℕ) (is_less is_greater : Bool) → IsSplit n f k z u t w d → (is_less ≡ true → v + 1 ≡ w) → (is_less ≡ false → v ≡ w) → (IsTrue is_less ↔ (u * z < t * k)) → (IsTrue is_greater ↔ (t * k < u * z)) → IsCut (u * n) f v (is_less || is_greater)
cut_by n f k z u t v w d true is_greater h one none less greater =
    let x = cut_less n f k z u t v w d h (one refl) (less.0 refl) in
    record { at_least = omega (arith, x.0); next = x.1; exact = λ no. absurd (false≢true (sym no)); more = λ _. x.0 }
cut_by n f k z u t v w d false true h one none less greater =
    let e : v ≡ w = none refl in
    let x = cut_above n f k z u t w d h (greater.0 refl) in
    let y = cut_rest_most n f k z u t w d h in
    let m : v * f ≡ w * f = ap (λ a. a * f) e in
    record { at_least = omega (arith, m, x); next = omega (arith, m, y); exact = λ no. absurd (false≢true (sym no)); more = λ _. omega (arith, m, x) }
cut_by n f k z u t v w d false false h one none less greater =
    let e : v ≡ w = none refl in
    let low = not_that false (u * z) (t * k) less refl in
    let high = not_that false (t * k) (u * z) greater refl in
    let x = cut_same n f k z u t w d h (omega (arith, low, high)) in
    let m : v * f ≡ w * f = ap (λ a. a * f) e in
    record { at_least = omega (arith, m, x); next = omega (arith, m, x, h.some_f); exact = λ _. omega (arith, m, x); more = λ no. absurd (false≢true no) }

-- if a product of digits is less than the whole number that a quotient is rounded up by, the quotient is not 0
pub some_whole : (w d u n t z k : ℕ) (is_less : Bool) → w * d ≡ u * n + t → (IsTrue is_less ↔ (u * z < t * k)) → from_bool is_less ≤ w
some_whole (suc w) d u n t z k true e less = omega arith
some_whole zero d u n t z k true e less =
    let none : t ≡ 0 = omega (arith, e) in
    let m : t * k ≡ 0 * k = ap (λ x. x * k) none in
    absurd (omega (arith, m, less.0 refl))
some_whole w d u n t z k false e less = omega arith

pub one_less : (is_less : Bool) (w b : ℕ) → b ≡ from_bool is_less → b ≤ w → is_less ≡ true → w - b + 1 ≡ w
one_less true w b e most is = omega (arith, e, most)
one_less false w b e most is = absurd (false≢true is)

pub none_less : (is_less : Bool) (w b : ℕ) → b ≡ from_bool is_less → is_less ≡ false → w - b ≡ w
none_less true w b e is = absurd (false≢true (sym is))
none_less false w b e is = omega (arith, e)

block_least : (r : Radix) → 2 ^ 59 ≤ base r ^ block r
block_least Bin = omega arith
block_least Oct = omega arith
block_least Dec = omega arith
block_least Hex = omega arith

pub square_great : (r : Radix) (p : ℕ) → p ≡ base r ^ block r → 2 ^ 67 ≤ p * p
square_great r p e =
    let h : 2 ^ 59 ≤ p = omega (arith, e, block_least r) in
    let m : 2 ^ 59 * p ≤ p * p = mul-le-mul_right p h in
    omega (arith, m, h)

pub product_cut : (r : Radix) (ds last : List ℕ) (u p high low t v w : ℕ) (is_less is_greater : Bool) → AllBelowBase (base r) last → u ≤ 2 ^ 67 → t < p * p → p ≡ base r ^ block r
    → high ≡ first_number (base r) (block r) ds → low ≡ first_number (base r) (block r) (drop (block r) ds) → last ≡ drop (block r) (drop (block r) ds)
    → w * (p * p) ≡ u * (high * p + low) + t → (is_less ≡ true → v + 1 ≡ w) → (is_less ≡ false → v ≡ w)
    → (IsTrue is_less ↔ (u * number_from_digits (base r) last < t * base r ^ length last)) → (IsTrue is_greater ↔ (t * base r ^ length last < u * number_from_digits (base r) last))
    → IsCut (u * number_from_digits (base r) ds) (base r ^ length ds) v (is_less || is_greater)
product_cut r ds last u p high low t v w is_less is_greater all most below one_is high_is low_is last_is whole one none less greater =
    let b : ℕ = base r in
    let h : ℕ = block r in
    let f : 1 ≤ b ^ length ds = one-le-pow (length ds) b (base_least r) in
    let k : 1 ≤ b ^ length last = one-le-pow (length last) b (base_least r) in
    let P : ℕ → ℕ → ℕ → List ℕ → Type 0 = λ q x y l. number_from_digits b ds * (q * q) * b ^ length l ≡ ((x * q + y) * b ^ length l + number_from_digits b l) * b ^ length ds in
    let by_last : P (b ^ h) (first_number b h ds) (first_number b h (drop h ds)) last = subst (P (b ^ h) (first_number b h ds) (first_number b h (drop h ds))) (sym last_is) (digits_are b h ds (base_least r)) in
    let by_low : P (b ^ h) (first_number b h ds) low last = subst (λ y. P (b ^ h) (first_number b h ds) y last) (sym low_is) by_last in
    let by_high : P (b ^ h) high low last = subst (λ x. P (b ^ h) x low last) (sym high_is) by_low in
    let digits : P p high low last = subst (λ q. P q high low last) (sym one_is) by_high in
    let great = square_great r p one_is in
    cut_by (number_from_digits b ds) (b ^ length ds) (b ^ length last) (number_from_digits b last) u t v w (p * p) is_less is_greater
    (split_of (number_from_digits b ds) (b ^ length ds) (b ^ length last) (number_from_digits b last) u (high * p + low) t w (p * p) (omega (arith, f)) (omega (arith, k)) digits whole below (number_lt b last all) (omega (arith, great, most))) one none less greater

-- digits after others are at most as great a number
number_after : (b h : ℕ) (ds : List ℕ) → number_from_digits b (drop h ds) ≤ number_from_digits b ds
number_after b h ds =
    let split : number_from_digits b ds ≡ number_from_digits b (take h ds) * b ^ length (drop h ds) + number_from_digits b (drop h ds) = ap (number_from_digits b) (sym (take-append-drop h ds)) ∙ number_append b (take h ds) (drop h ds) in
    omega (arith, split)

-- digits have the same bound after others
pub few_after : (b h bytes : ℕ) (ds later : List ℕ) → number_from_digits b ds < b ^ (bytes + 1) → later ≡ drop h ds → number_from_digits b later < b ^ (bytes + 1)
few_after b h bytes ds later few is = subst (λ (l : List ℕ). number_from_digits b l < b ^ (bytes + 1)) (sym is) (omega (arith, few, number_after b h ds))

-- ---- a numeral, cut
rest_cut : (num den w n f u p a m g c : ℕ) (more : Bool) → 0 < f → 0 < g → 0 < den → num * f ≡ (w * f + n) * u * den → n * p * g ≡ (a * g + m) * f → IsCut (u * m) g c more
    → IsCut (num * p) den (w * u * p + (u * a + c)) more
rest_cut num den w n f u p a m g c more some_f some_g some number digits x =
    let i : num * f * (p * g) ≡ (w * f + n) * u * den * (p * g) = ap (λ t. t * (p * g)) number in
    let j : n * p * g * (u * den) ≡ (a * g + m) * f * (u * den) = ap (λ t. t * (u * den)) digits in
    let e : num * p * g ≡ ((w * u * p + u * a) * g + u * m) * den = cancel_eq (num * p * g) (((w * u * p + u * a) * g + u * m) * den) f some_f (omega (arith, i, j)) in
    let whole : ℕ = w * u * p + (u * a + c) in
    let low : c * g * den ≤ u * m * den = mul-le-mul_right den x.at_least in
    let high : (u * m + 1) * den ≤ (c + 1) * g * den = mul-le-mul_right den (omega (arith, x.next)) in
    record {
      at_least = cancel_le (whole * den) (num * p) g some_g (omega (arith, e, low));
      next = cancel_lt (num * p) ((whole + 1) * den) g (omega (arith, e, high, some));
      exact = λ no. let same : u * m * den ≡ c * g * den = ap (λ t. t * den) (x.exact no) in cancel_eq (num * p) (whole * den) g some_g (omega (arith, e, same));
      more = λ yes. let above : (c * g + 1) * den ≤ u * m * den = mul-le-mul_right den (let h = x.more yes in omega (arith, h)) in cancel_lt (whole * den) (num * p) g (omega (arith, e, above, some));
    }

parts_some : (r : Radix) → 0 < cut_parts r
unfolding cut_parts
parts_some r = let h : 1 ≤ base r ^ block r = one-le-pow (block r) (base r) (base_least r) in omega (arith, h)

pub parts_are : (r : Radix) (one : ℕ) → one ≡ base r ^ block r → one ≡ cut_parts r
unfolding cut_parts
parts_are r one e = e

wholes : (w u p total : ℕ) → 0 < p → w * u * p + total ≡ (w * u + total / p) * p + total % p
wholes w u p total some = let e : total ≡ total / p * p + total % p = omega (arith, some) in omega (arith, e)

above_cut : (r : Radix) (p : Parts) (f : ℕ) (negative : Bool) (whole fraction : List ℕ) (s c : ℕ) (more : Bool) → IsScanned r p negative whole fraction s
    → IsCut (2 ^ (f + s) * number_from_digits (base r) (drop (block r) fraction)) (base r ^ length (drop (block r) fraction)) c more
    → IsCutAbove r p f ((2 ^ (f + s) * first_number (base r) (block r) fraction + c) % cut_parts r) more
above_cut r p f negative whole fraction s c more scanned x =
    let b : ℕ = base r in
    let h : ℕ = block r in
    let one : ℕ = cut_parts r in
    let u : ℕ = 2 ^ (f + s) in
    let num : ℕ = (magnitude r p).num * 2 ^ f in
    let den : ℕ = (magnitude r p).den in
    let later : List ℕ = drop h fraction in
    let w : ℕ = number_from_digits b whole in
    let total : ℕ = u * first_number b h fraction + c in
    let i = in_ulps_of r p f negative whole fraction s scanned in
    let fs : 1 ≤ b ^ length fraction = one-le-pow (length fraction) b (base_least r) in
    let gs : 1 ≤ b ^ length later = one-le-pow (length later) b (base_least r) in
    let same : b ^ h ≡ one = parts_are r (b ^ h) refl in
    let digits : number_from_digits b fraction * one * b ^ length later ≡ (first_number b h fraction * b ^ length later + number_from_digits b later) * b ^ length fraction
    = ap (λ t. number_from_digits b fraction * t * b ^ length later) (sym same) ∙ block_is b h fraction in
    let cut = rest_cut num den w (number_from_digits b fraction) (b ^ length fraction) u one (first_number b h fraction) (number_from_digits b later) (b ^ length later) c more (omega (arith, fs)) (omega (arith, gs)) (magnitude_pos r p) i.number digits x in
    let some : 0 < one = parts_some r in
    record {
      ulps = w * u + total / one;
      cut = subst (λ t. IsCut (num * one) den t more) (wholes w u one total some) cut;
      below = omega (arith, some);
    }

pub above_found : (r : Radix) (p : Parts) (f : ℕ) (negative : Bool) (whole fraction later : List ℕ) (s c unit one high : ℕ) (more : Bool) → IsScanned r p negative whole fraction s → unit ≡ 2 ^ (f + s) → one ≡ base r ^ block r
    → high ≡ first_number (base r) (block r) fraction → later ≡ drop (block r) fraction → IsCut (unit * number_from_digits (base r) later) (base r ^ length later) c more → IsCutAbove r p f ((unit * high + c) % one) more
above_found r p f negative whole fraction later s c unit one high more scanned unit_is one_is high_is later_is x =
    let b : ℕ = base r in
    let by_unit : IsCut (2 ^ (f + s) * number_from_digits b later) (b ^ length later) c more = subst (λ u. IsCut (u * number_from_digits b later) (b ^ length later) c more) unit_is x in
    let cut = above_cut r p f negative whole fraction s c more scanned (subst (λ (l : List ℕ). IsCut (2 ^ (f + s) * number_from_digits b l) (b ^ length l) c more) later_is by_unit) in
    let total : (unit * high + c) % one ≡ (2 ^ (f + s) * first_number b (block r) fraction + c) % cut_parts r
    = ap (λ u. (u * high + c) % one) unit_is ∙ (ap (λ h. (2 ^ (f + s) * h + c) % one) high_is ∙ ap (λ o. (2 ^ (f + s) * first_number b (block r) fraction + c) % o) (parts_are r one one_is)) in
    subst (λ v. IsCutAbove r p f v more) (sym total) cut

pub unit_most : (r : Radix) (f s unit : ℕ) → f ≤ 64 → s < exponent_unit r → unit ≡ 2 ^ (f + s) → unit ≤ 2 ^ 67
unit_most r f s unit h k is = let m : 2 ^ (f + s) ≤ 2 ^ 67 = pow-le-pow_right (omega arith) (shift_small r f s h k) in omega (arith, m, is)

pub product_most : (a b : ℕ) → a ≤ 2 ^ 67 → b ≤ 2 ^ 60 → a * b ≤ 2 ^ 127
product_most a b h k = let m : a * b ≤ 2 ^ 67 * b = mul-le-mul_right b h in omega (arith, m, k)

-- ---- the error
same_floor : (num den p k j rest : ℕ) (more : Bool) → 0 < den → IsNotAbove num den k → IsCut (num * p) den (j * p + rest) more → rest < p → j ≡ k
same_floor num den p k j rest more some floor x less =
    let a : k * den * p ≤ num * p = mul-le-mul_right p floor.at_most in
    let b : (num + 1) * p ≤ (k + 1) * den * p = mul-le-mul_right p (omega (arith, floor.next)) in
    let c : (rest + 1) * den ≤ p * den = mul-le-mul_right den (omega (arith, less)) in
    let low : j < k + 1 = cancel_lt j (k + 1) (p * den) (omega (arith, x.at_least, b, less)) in
    let high : k < j + 1 = cancel_lt k (j + 1) (p * den) (omega (arith, x.next, a, c)) in
    omega (arith, low, high)

nothing_left : (a b p den : ℕ) → 0 < den → a ≤ b → IsNotAbove ((a - b) * p) den 0
nothing_left a b p den some less =
    let none : a - b ≡ 0 = omega (arith, less) in
    let e : (a - b) * p ≡ 0 * p = ap (λ t. t * p) none in
    record { at_most = omega arith; next = omega (arith, e, some) }

under_cut : (num den p k rest : ℕ) (more : Bool) → k * den ≤ num → IsCut (num * p) den (k * p + rest) more → IsNotAbove ((num - k * den) * p) den rest
under_cut num den p k rest more low x =
    let apart : num ≡ k * den + (num - k * den) = omega (arith, low) in
    let e : num * p ≡ (k * den + (num - k * den)) * p = ap (λ t. t * p) apart in
    record { at_most = omega (arith, e, x.at_least); next = omega (arith, e, x.next) }

over_cut : (num den p k rest less : ℕ) (more : Bool) → 0 < den → num ≤ (k + 1) * den → IsCut (num * p) den (k * p + rest) more → rest < p → (more ≡ true → less + rest + 1 ≡ p) → (more ≡ false → less + rest ≡ p)
    → IsNotAbove (((k + 1) * den - num) * p) den less
over_cut num den p k rest less more some high x below one none = by more refl
  where
    d : ℕ
    d = (k + 1) * den - num

    e : (num + d) * p ≡ (k + 1) * den * p
    e = let apart : num + ((k + 1) * den - num) ≡ (k + 1) * den = omega (arith, high) in ap (λ t. t * p) apart

    by : (b : Bool) → more ≡ b → IsNotAbove (d * p) den less
    by true is =
        let q : (less + rest + 1) * den ≡ p * den = ap (λ t. t * den) (one is) in
        record { at_most = omega (arith, e, q, x.next); next = let y = x.more is in omega (arith, e, q, y) }
    by false is =
        let q : (less + rest) * den ≡ p * den = ap (λ t. t * den) (none is) in
        let y = x.exact is in
        record { at_most = omega (arith, e, q, y); next = omega (arith, e, q, y, some) }

-- over and under with the sign of a numeral
over_is : (m n : Bool) (over under : ℕ) (e : CutError) → n ≡ m → IsSigned n over under e → over ≡ (if m then e.below else e.above)
over_is true n over under e is x = sym (x.below ∙ ap (λ (b : Bool). if b then over else under) is)
over_is false n over under e is x = sym (x.above ∙ ap (λ (b : Bool). if b then under else over) is)

under_is : (m n : Bool) (over under : ℕ) (e : CutError) → n ≡ m → IsSigned n over under e → under ≡ (if m then e.above else e.below)
under_is true n over under e is x = sym (x.above ∙ ap (λ (b : Bool). if b then under else over) is)
under_is false n over under e is x = sym (x.below ∙ ap (λ (b : Bool). if b then over else under) is)

error_by : (mode : ReadMode) (r : Radix) (f : ℕ) (bytes : List ℕ) (n over under : ℕ) (e : CutError) (negative : Bool) (h : HasSteps mode r f bytes n) → negative ≡ is_minus h.parts.sign → IsSigned negative over under e
    → IsNotAbove ((n * (magnitude r h.parts).den - (magnitude r h.parts).num * 2 ^ f) * cut_parts r) (magnitude r h.parts).den over
    → IsNotAbove (((magnitude r h.parts).num * 2 ^ f - n * (magnitude r h.parts).den) * cut_parts r) (magnitude r h.parts).den under
    → IsCutError mode r f bytes e
error_by mode r f bytes n over under e negative h sign x a b =
    let num : ℕ = (magnitude r h.parts).num * 2 ^ f in
    let den : ℕ = (magnitude r h.parts).den in
    let p : ℕ = cut_parts r in
    let m : Bool = is_minus h.parts.sign in
    let A : ℕ → ℕ → Type 0 = λ k v. IsNotAbove ((k * den - num) * p) den v in
    let B : ℕ → ℕ → Type 0 = λ k v. IsNotAbove ((num - k * den) * p) den v in
    record {
      parts = h.parts;
      numeral = h.numeral;
      number = h.number;
      read = h.read;
      over = subst (λ v. A h.read.ulps v) (over_is m negative over under e sign x) (subst (λ k. A k over) (sym h.steps_are) a);
      under = subst (λ v. B h.read.ulps v) (under_is m negative over under e sign x) (subst (λ k. B k under) (sym h.steps_are) b);
    }

around_of : (mode : ReadMode) (r : Radix) (f : ℕ) (bytes : List ℕ) (k n : ℕ) (h : HasSteps mode r f bytes n) → n < 2 ^ 64 → (IsReadWithin TowardsZero r f bytes → HasSteps TowardsZero r f bytes k) → AreAround mode r f h.parts h.number h.read k n
around_of mode r f bytes k n h small below = around mode r f bytes k n (record { parts = h.parts; numeral = h.numeral; number = h.number; read = h.read; within = omega (arith, h.steps_are, small) }) below (λ _. h)

pub error_down : (mode : ReadMode) (r : Radix) (f : ℕ) (bytes : List ℕ) (k n rest : ℕ) (more negative : Bool) (e : CutError) → n < 2 ^ 64 → n ≡ k → (IsReadWithin TowardsZero r f bytes → HasSteps TowardsZero r f bytes k)
    → ((p : Parts) → HasNumeral r bytes p → negative ≡ is_minus p.sign) → ((p : Parts) → HasNumeral r bytes p → IsCutAbove r p f rest more) → IsSigned negative 0 rest e → HasSteps mode r f bytes n → IsCutError mode r f bytes e
error_down mode r f bytes k n rest more negative e small same below sign above x h =
    let num : ℕ = (magnitude r h.parts).num * 2 ^ f in
    let den : ℕ = (magnitude r h.parts).den in
    let p : ℕ = cut_parts r in
    let some : 0 < den = magnitude_pos r h.parts in
    let a = around_of mode r f bytes k n h small below in
    let c = above h.parts h.numeral in
    let j : c.ulps ≡ k = same_floor num den p k c.ulps rest more some a.floor c.cut c.below in
    let cut : IsCut (num * p) den (k * p + rest) more = subst (λ t. IsCut (num * p) den (t * p + rest) more) j c.cut in
    error_by mode r f bytes n 0 rest e negative h (sign h.parts h.numeral) x
    (subst (λ t. IsNotAbove ((t * den - num) * p) den 0) (sym same) (nothing_left (k * den) num p den some a.floor.at_most))
    (subst (λ t. IsNotAbove ((num - t * den) * p) den rest) (sym same) (under_cut num den p k rest more a.floor.at_most cut))

pub error_up : (mode : ReadMode) (r : Radix) (f : ℕ) (bytes : List ℕ) (k n rest less : ℕ) (more negative : Bool) (e : CutError) → n < 2 ^ 64 → (n ≡ k → ⊥) → (IsReadWithin TowardsZero r f bytes → HasSteps TowardsZero r f bytes k)
    → ((p : Parts) → HasNumeral r bytes p → negative ≡ is_minus p.sign) → ((p : Parts) → HasNumeral r bytes p → IsCutAbove r p f rest more)
    → (more ≡ true → less + rest + 1 ≡ cut_parts r) → (more ≡ false → less + rest ≡ cut_parts r) → IsSigned negative less 0 e → HasSteps mode r f bytes n → IsCutError mode r f bytes e
error_up mode r f bytes k n rest less more negative e small differs below sign above one none x h =
    let num : ℕ = (magnitude r h.parts).num * 2 ^ f in
    let den : ℕ = (magnitude r h.parts).den in
    let p : ℕ = cut_parts r in
    let some : 0 < den = magnitude_pos r h.parts in
    let a = around_of mode r f bytes k n h small below in
    let c = above h.parts h.numeral in
    let j : c.ulps ≡ k = same_floor num den p k c.ulps rest more some a.floor c.cut c.below in
    let cut : IsCut (num * p) den (k * p + rest) more = subst (λ t. IsCut (num * p) den (t * p + rest) more) j c.cut in
    let next : n ≡ k + 1 = ⊎_elim (λ (less : k < n). omega (arith, less, a.most)) (λ (same : n ≤ k). absurd (differs (omega (arith, same, a.least)))) (cases_lt k n) in
    let high : num ≤ (k + 1) * den = omega (arith, a.floor.next) in
    error_by mode r f bytes n less 0 e negative h (sign h.parts h.numeral) x
    (subst (λ t. IsNotAbove ((t * den - num) * p) den less) (sym next) (over_cut num den p k rest less more some high cut c.below one none))
    (subst (λ t. IsNotAbove ((num - t * den) * p) den 0) (sym next) (nothing_left num ((k + 1) * den) p den some high))

-- ---- a short decimal
sub_times : (x y t : ℕ) → (x - y) * t ≡ x * t - y * t
sub_times x y t =
    ⊎_elim
    (λ (less : x < y). let none : x - y ≡ 0 = omega (arith, less) in let e : (x - y) * t ≡ 0 * t = ap (λ v. v * t) none in let m : x * t ≤ y * t = mul-le-mul_right t (omega (arith, less)) in omega (arith, e, m))
    (λ (more : y ≤ x). let apart : x ≡ y + (x - y) = omega (arith, more) in let e : x * t ≡ (y + (x - y)) * t = ap (λ v. v * t) apart in omega (arith, e))
    (cases_lt x y)

-- num / den is y / t
moved : (num den q t y : ℕ) → num * t ≡ y * den → (q * den - num) * t ≡ (q * t - y) * den
moved num den q t y e =
    let a = sub_times (q * den) num t in
    let b = sub_times (q * t) y den in
    let m : q * den * t ≡ q * t * den = omega arith in
    a ∙ (ap (λ v. v - num * t) m ∙ (ap (λ v. q * t * den - v) e ∙ sym b))

moved_back : (num den q t y : ℕ) → num * t ≡ y * den → (num - q * den) * t ≡ (y - q * t) * den
moved_back num den q t y e =
    let a = sub_times num (q * den) t in
    let b = sub_times y (q * t) den in
    let m : q * den * t ≡ q * t * den = omega arith in
    a ∙ (ap (λ v. num * t - v) m ∙ (ap (λ v. v - q * t * den) e ∙ sym b))

whole_cut : (n den q : ℕ) → 0 < den → n ≡ q * den → IsNotAbove n den q
whole_cut n den q some e = record { at_most = omega (arith, e); next = omega (arith, e, some) }

near_words : (num den q t y : ℕ) → 0 < den → 0 < t → num < q * den + den → q * den < num + den → num * t ≡ y * den → distance (q * t) y < t
near_words num den q t y some t_some above below e =
    let a : (num + 1) * t ≤ (q * den + den) * t = mul-le-mul_right t (omega (arith, above)) in
    let b : (q * den + 1) * t ≤ (num + den) * t = mul-le-mul_right t (omega (arith, below)) in
    let high : y < q * t + t = cancel_lt y (q * t + t) den (omega (arith, a, e, t_some)) in
    let low : q * t < y + t = cancel_lt (q * t) (y + t) den (omega (arith, b, e, t_some)) in
    omega (arith, high, low)

decimal_word : (p : Parts) (found : ShortNumeral) (word : ℕ) → (magnitude Dec p).num * 10 ^ found.places ≡ (found.whole * 10 ^ found.places + found.fraction) * (magnitude Dec p).den → word * 10 ^ found.places ≡ found.fraction * 10 ^ 18
    → (magnitude Dec p).num * 10 ^ 18 ≡ (found.whole * 10 ^ 18 + word) * (magnitude Dec p).den
decimal_word p found word value is =
    let t : ℕ = 10 ^ found.places in
    let num : ℕ = (magnitude Dec p).num in
    let den : ℕ = (magnitude Dec p).den in
    let some : 1 ≤ 10 ^ found.places = one-le-pow found.places 10 (omega arith) in
    let a : num * t * 10 ^ 18 ≡ (found.whole * t + found.fraction) * den * 10 ^ 18 = ap (λ v. v * 10 ^ 18) value in
    let b : word * t * den ≡ found.fraction * 10 ^ 18 * den = ap (λ v. v * den) is in
    cancel_eq (num * 10 ^ 18) ((found.whole * 10 ^ 18 + word) * den) t (omega (arith, some)) (omega (arith, a, b))

pub ten_parts : cut_parts Dec ≡ 10 ^ 18
unfolding cut_parts
ten_parts = refl

pub other_parts : (r : Radix) → (r ≡ Dec → ⊥) → cut_parts r ≡ 2 ^ 60
unfolding cut_parts
other_parts Bin n = omega arith
other_parts Oct n = omega arith
other_parts Dec n = absurd (n refl)
other_parts Hex n = omega arith

decimal_error : (mode : ReadMode) (f : ℕ) (bytes : List ℕ) (found : ShortNumeral) (n word over under : ℕ) (e : CutError) → IsShortRead Dec bytes found → found.exponent ≡ pos 0 → word * 10 ^ found.places ≡ found.fraction * 10 ^ 18
    → (distance (n * 10 ^ 18) ((found.whole * 10 ^ 18 + word) * 2 ^ f) < 10 ^ 18 → (over ≡ n * 10 ^ 18 - (found.whole * 10 ^ 18 + word) * 2 ^ f) × (under ≡ (found.whole * 10 ^ 18 + word) * 2 ^ f - n * 10 ^ 18))
    → IsSigned found.negative over under e → HasSteps mode Dec f bytes n → IsCutError mode Dec f bytes e
decimal_error mode f bytes found n word over under e short flat is split sign h =
    let num : ℕ = (magnitude Dec h.parts).num * 2 ^ f in
    let den : ℕ = (magnitude Dec h.parts).den in
    let some : 0 < den = magnitude_pos Dec h.parts in
    let s = short.parts h.parts h.numeral in
    let t : ℕ = 10 ^ 18 in
    let y : ℕ = (found.whole * t + word) * 2 ^ f in
    let value = decimal_word h.parts found word (decimal_places h.parts found.negative found.whole found.fraction found.places found.exponent found.scales_by_two s flat) is in
    let scaled : num * t ≡ y * den = let m : (magnitude Dec h.parts).num * t * 2 ^ f ≡ (found.whole * t + word) * den * 2 ^ f = ap (λ v. v * 2 ^ f) value in omega (arith, m) in
    let c = close mode (is_minus h.parts.sign) num den h.read.ulps some h.read.rounded in
    let near : distance (n * t) y < t = subst (λ q. distance (q * t) y < t) h.steps_are (near_words num den h.read.ulps t y some (omega arith) c.above c.below scaled) in
    let both = split near in
    error_by mode Dec f bytes n over under e found.negative h s.sign sign
    (whole_cut ((n * den - num) * cut_parts Dec) den over some (ap (λ p. (n * den - num) * p) ten_parts ∙ (moved num den n t y scaled ∙ ap (λ v. v * den) (sym both.0))))
    (whole_cut ((num - n * den) * cut_parts Dec) den under some (ap (λ p. (num - n * den) * p) ten_parts ∙ (moved_back num den n t y scaled ∙ ap (λ v. v * den) (sym both.1))))

pub short_error : (mode : ReadMode) (r : Radix) (f : ℕ) (bytes : List ℕ) (found : ShortNumeral) (n word over under : ℕ) (e : CutError) → IsShortRead r bytes found → found.exponent ≡ pos 0 → word * 10 ^ found.places ≡ found.fraction * 10 ^ 18
    → (distance (n * 10 ^ 18) ((found.whole * 10 ^ 18 + word) * 2 ^ f) < 10 ^ 18 → (over ≡ n * 10 ^ 18 - (found.whole * 10 ^ 18 + word) * 2 ^ f) × (under ≡ (found.whole * 10 ^ 18 + word) * 2 ^ f - n * 10 ^ 18))
    → IsSigned found.negative over under e → HasSteps mode r f bytes n → IsCutError mode r f bytes e
short_error mode r f bytes found n word over under e short flat is split sign h =
    let d : IsShortRead Dec bytes found = subst (λ (x : Radix). IsShortRead x bytes found) short.decimal short in
    let k : HasSteps mode Dec f bytes n = subst (λ (x : Radix). HasSteps mode x f bytes n) short.decimal h in
    subst (λ (x : Radix). IsCutError mode x f bytes e) (sym short.decimal) (decimal_error mode f bytes found n word over under e d flat is split sign k)

-- ---- what is left of a part
pub left_more : (more : Bool) (p rest b : ℕ) → b ≡ from_bool more → rest < p → more ≡ true → p - rest - b + rest + 1 ≡ p
left_more true p rest b e less is = omega (arith, e, less)
left_more false p rest b e less is = absurd (false≢true is)

pub left_none : (more : Bool) (p rest b : ℕ) → b ≡ from_bool more → rest < p → more ≡ false → p - rest - b + rest ≡ p
left_none true p rest b e less is = absurd (false≢true (sym is))
left_none false p rest b e less is = omega (arith, e, less)

pub bool_most : (more : Bool) (b : ℕ) → b ≡ from_bool more → b ≤ 1
bool_most true b e = omega (arith, e)
bool_most false b e = omega (arith, e)

pub signed_small : (negative : Bool) (over under : ℕ) (e : CutError) → IsSigned negative over under e → e.above + e.below ≡ over + under
signed_small true over under e x = omega (arith, x.above, x.below)
signed_small false over under e x = omega (arith, x.above, x.below)
