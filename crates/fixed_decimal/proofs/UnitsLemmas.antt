-- The count of units in a number, and the fraction of a unit that is lost.
use Rattle.std.proofs.Common.{◌≡◌, ℕ, zero, suc, ◌+◌, ◌-◌, ◌*◌, ◌/◌, ◌%◌, ◌^◌, ◌<◌, ◌≤◌, ◌⊎◌, ◌↔◌, Bool, true, false, IsTrue, List, [], ◌∷◌, ◌++◌, length, take, drop, refl, sym, ap, subst, ◌∙◌, arith, inl, inr, ⊎_elim, mul-pos, mul-le-mul_right, mul-le-mul_left, div-add-mod', length-drop, take-append-drop}
use Rattle.std.proofs.lemmas.Bool.{cases_lt}
use Rattle.std.proofs.lemmas.Int.Digits.{number_lt}
use Rattle.std.proofs.lemmas.List.{take_all, drop_all}
use Rattle.std.proofs.lemmas.Nat.{pow-add}
use Rattle.std.proofs.Math.Nat.{one-le-pow, pow-le-pow_right}
use Rattle.std.specs.Int.Digits.{number_from_digits, AllBelowBase}
use Rattle.fixed_bits.proofs.Public.{rounded_same}
use Rattle.fixed_bits.specs.LostFractions.{IsLostFraction}
use Rattle.fixed_bits.specs.Rounded.{IsRounded}
use Rattle.fixed_bits.specs.declared.mode.ReadMode.{ReadMode}
use Rattle.fixed_bits.specs.declared.rounding.LostFraction.{LostFraction}
use Rattle.fixed_bits.specs.declared.rounding.LostFraction.TheVariants.{LessThanHalf, MoreThanHalf}
use Rattle.fixed_decimal.specs.Decimals.{IsWhole}
use Rattle.fixed_decimal.specs.Inner.Units.{AreUnits, IsCounted}
use Rattle.fixed_decimal.specs.declared.count.Count.{Count}
use Rattle.fixed_decimal.specs.declared.count.Units.{Units}
use Rattle.fixed_numeral.proofs.Public.{number_append, below_split}
use Rattle.fixed_numeral.specs.Place.{NoTrailingZero}
use Rattle.fixed_numeral.specs.Spelled.{spelled, IsSameNumber}
use Rattle.fixed_numeral.specs.Value.{Fraction}

-- ---- a positive factor cancels
cancel_eq : (a b d : ℕ) → 0 < d → a * d ≡ b * d → a ≡ b
cancel_eq a b d p e = ⊎_elim
    (λ (l : a < b). absurd (omega (arith, mul-le-mul_right d (let z : a + 1 ≤ b = omega arith in z))))
    (λ (l : b ≤ a). ⊎_elim
    (λ (k : b < a). absurd (omega (arith, mul-le-mul_right d (let z : b + 1 ≤ a = omega arith in z))))
    (λ (k : a ≤ b). omega arith)
    (cases_lt b a))
    (cases_lt a b)

-- a / x = q + s / d is whole if and only if s is zero
exact_rest : (a x q d s : ℕ) → 0 < x → 0 < d → s < d → a * d ≡ (q * d + s) * x → (s ≡ 0) ↔ IsWhole a x
exact_rest a x q d s px pd small e = (
  λ z. (q, cancel_eq a (q * x) d pd (let one : (q * d + s) * x ≡ q * x * d = rw z (omega arith) in e ∙ one)),
  λ (k, m). rest k (cancel_eq (k * d) (q * d + s) x px (let one : k * d * x ≡ a * d = omega (arith, ap (λ y. y * d) m) in one ∙ e)),
)
  where
    rest : (k : ℕ) → k * d ≡ q * d + s → s ≡ 0
    rest k h = ⊎_elim
        (λ (l : q < k). absurd (omega (arith, mul-le-mul_right d (let z : q + 1 ≤ k = omega arith in z))))
        (λ (l : k ≤ q). omega (arith, mul-le-mul_right d l))
        (cases_lt q k)

lost_within : (t : LostFraction) (s den : ℕ) → 0 < den → IsLostFraction t s den → s < den
lost_within LessThanHalf s den p h = omega (arith, h.1)
lost_within MoreThanHalf s den p h = h.1
lost_within x s den p h = omega arith

-- ---- rounding
pub parity : (high units : ℕ) → (high * 2 ^ 64 + units) % 2 ≡ units % 2
parity high units = omega arith

over_is : (over above next : Bool) (high total : ℕ) → (IsTrue over ↔ (0 < high)) → (IsTrue above ↔ (2 ^ 64 ≤ total)) → (IsTrue next ↔ (IsTrue over ⊎ IsTrue above)) → IsTrue next ↔ (0 < high + total / 2 ^ 64)
over_is over above next high total o a e = (
  λ t. ⊎_elim (λ b. let l : 0 < high = o.0 b in omega (arith, l)) (λ b. let l : 2 ^ 64 ≤ total = a.0 b in omega (arith, l)) (e.0 t),
  λ l. e.1 (⊎_elim (λ (k : 0 < high). inl (o.1 k)) (λ (k : high ≤ 0). inr (a.1 (omega (arith, l, k)))) (cases_lt 0 high)),
)

pub rounded_units : (mode : ReadMode) (number : Fraction) (n : ℕ) (count : Count) (more : ℕ) (above : Bool) (units : Units) → 0 < number.den → (h : IsCounted number n count) → IsRounded mode false ((h.high * 2 ^ 64 + count.units) * h.unit + h.rest) h.unit (h.high * 2 ^ 64 + count.units + more) → units.low ≡ (count.units + more) % 2 ^ 64 → (IsTrue above ↔ (2 ^ 64 ≤ count.units + more)) → (IsTrue units.has_high_bits ↔ (IsTrue count.is_over ⊎ IsTrue above)) → ((y d : ℕ) → 0 < d → IsLostFraction count.lost y d → IsTrue units.is_exact ↔ (y ≡ 0)) → AreUnits mode number n units
rounded_units mode number n count more above units some h to low high over none =
    let total : h.high * 2 ^ 64 + count.units + more ≡ (h.high + (count.units + more) / 2 ^ 64) * 2 ^ 64 + units.low = omega (arith, low, div-add-mod' (count.units + more) (2 ^ 64)) in
    let test = exact_rest (number.num * 10 ^ n) number.den (h.high * 2 ^ 64 + count.units) h.unit h.rest some h.some (lost_within count.lost h.rest h.unit h.some h.left) h.split in
    record {
      high = h.high + (count.units + more) / 2 ^ 64;
      to = rw total at (rounded_same mode false ((h.high * 2 ^ 64 + count.units) * h.unit + h.rest) h.unit (number.num * 10 ^ n) number.den (h.high * 2 ^ 64 + count.units + more) h.some some (sym h.split) to);
      over = over_is count.is_over above units.has_high_bits h.high (count.units + more) h.over high over;
      exact = (λ t. test.0 ((none h.rest h.unit h.some h.left).0 t), λ m. (none h.rest h.unit h.some h.left).1 (test.1 m));
    }

-- equal fractions have the same count of units
pub counted_same : (a b : Fraction) (n : ℕ) (count : Count) → 0 < a.den → IsSameNumber a b → IsCounted a n count → IsCounted b n count
counted_same a b n count some same h = record {
  high = h.high;
  rest = h.rest;
  unit = h.unit;
  some = h.some;
  split = plain a.num a.den b.num b.den (10 ^ n) h.unit ((h.high * 2 ^ 64 + count.units) * h.unit + h.rest) some same h.split;
  left = h.left;
  over = h.over;
}
  where
    plain : (m d k e t u x : ℕ) → 0 < d → m * e ≡ k * d → m * t * u ≡ x * d → k * t * u ≡ x * e
    plain m d k e t u x p one two = cancel_eq (k * t * u) (x * e) d p (omega (arith, ap (λ y. y * t * u) one, ap (λ y. y * e) two))

-- ---- few places
pub ten_pos : (n : ℕ) → 0 < 10 ^ n
ten_pos n = one-le-pow n 10 (omega arith)

ten_most : (n : ℕ) → n ≤ 18 → 10 ^ n ≤ 10 ^ 18
ten_most n l = pow-le-pow_right (omega arith) l

pub ten_word : (n : ℕ) → n ≤ 18 → 10 ^ n ≤ 2 ^ 64
ten_word n l = omega (arith, ten_most n l)

pub raised_room : (n p m : ℕ) → n < 2 ^ 64 → p ≤ 18 → m < 2 ^ 64 → n * 10 ^ p + m < 2 ^ 127
raised_room n p m small few more = let most : n * 10 ^ p ≤ n * 10 ^ 18 = mul-le-mul_left n (ten_most p few) in omega (arith, most, small, more)

pub scaled_room : (f p n : ℕ) → f < 10 ^ p → p ≤ 18 → n ≤ 18 → f * 10 ^ (n - p) < 2 ^ 64
scaled_room f p n below lp ln = plain (10 ^ p) (10 ^ (n - p)) (10 ^ (p + (n - p))) (pow-add 10 p (n - p)) (ten_pos (n - p)) below (ten_most (p + (n - p)) (omega arith))
  where
    plain : (a x t : ℕ) → t ≡ a * x → 0 < x → f < a → t ≤ 10 ^ 18 → f * x < 2 ^ 64
    plain a x t e q k m = omega (arith, e, m, mul-le-mul_right x k)

not_over : (b : Bool) → b ≡ false → IsTrue b ↔ (0 < 0)
not_over false e = (λ t. absurd (let k : false ≡ true = t in cc), λ (l : 0 < 0). absurd (omega arith))
not_over true e = absurd (cc)

pub counted_few : (w f p n part rest : ℕ) (count : Count) → f * 10 ^ (n - p) ≡ part * 10 ^ (p - n) + rest → IsLostFraction count.lost rest (10 ^ (p - n)) → count.units ≡ w * 10 ^ n + part → count.is_over ≡ false → IsCounted (record { num = w * 10 ^ p + f; den = 10 ^ p }) n count
counted_few w f p n part rest count e left units over =
    let scale : 10 ^ n * 10 ^ (p - n) ≡ 10 ^ p * 10 ^ (n - p) = sym (pow-add 10 n (p - n)) ∙ ap (λ i. 10 ^ i) (let z : n + (p - n) ≡ p + (n - p) = omega arith in z) ∙ pow-add 10 p (n - p) in
    record {
      high = 0;
      rest = rest;
      unit = 10 ^ (p - n);
      some = ten_pos (p - n);
      split = plain (10 ^ n) (10 ^ (p - n)) (10 ^ p) (10 ^ (n - p)) count.units scale e units;
      left = left;
      over = not_over count.is_over over;
    }
  where
    plain : (a d t u c : ℕ) → a * d ≡ t * u → f * u ≡ part * d + rest → c ≡ w * a + part → (w * t + f) * a * d ≡ ((0 * 2 ^ 64 + c) * d + rest) * t
    plain a d t u c one two three = omega (arith, ap (λ x. f * x) one, ap (λ x. x * t) two, ap (λ x. x * d * t) three)

-- ---- all digits
number_cons : (d : ℕ) (ds : List ℕ) → number_from_digits 10 (d ∷ ds) ≡ d * 10 ^ length ds + number_from_digits 10 ds
number_cons d ds = let e = number_append 10 (d ∷ []) ds in omega (arith, e)

-- digits without a trailing zero are not the number zero, if there is a digit
some_number : (ds : List ℕ) → NoTrailingZero ds → (ds ≡ [] → ⊥) → 0 < number_from_digits 10 ds
some_number [] n e = absurd (e refl)
some_number (zero ∷ []) n e = absurd (n [] refl)
some_number (suc d ∷ []) n e = omega arith
some_number (d ∷ c ∷ ds) n e =
    let more = some_number (c ∷ ds) (λ rest z. n (d ∷ rest) (ap (λ xs. d ∷ xs) z)) (λ z. absurd (omega (arith, ap length z))) in
    rw (number_cons d (c ∷ ds)) (omega (arith, more))

no_digits : (ds : List ℕ) → NoTrailingZero ds → number_from_digits 10 ds ≡ 0 → ds ≡ []
no_digits [] n e = refl
no_digits (d ∷ ds) n e = let more = some_number (d ∷ ds) n (λ z. absurd (omega (arith, ap length z))) in absurd (omega (arith, more, e))

pub lost_digits : (ds others : List ℕ) (d : ℕ) (last : Bool) (lost : LostFraction) → ds ≡ d ∷ others → AllBelowBase 10 ds → NoTrailingZero ds → (IsTrue last ↔ (others ≡ [])) → ((y k : ℕ) → y < k → (IsTrue last ↔ (y ≡ 0)) → 0 < d * k + y → IsLostFraction lost (d * k + y) (10 * k)) → IsLostFraction lost (number_from_digits 10 ds) (10 ^ length ds)
lost_digits ds others d last lost e below none el h =
    let below' : AllBelowBase 10 (d ∷ others) = rw e at below in
    let none' : NoTrailingZero (d ∷ others) = rw e at none in
    let none_after : NoTrailingZero others = λ rest z. none' (d ∷ rest) (ap (λ xs. d ∷ xs) z) in
    let small : number_from_digits 10 others < 10 ^ length others = number_lt 10 others (below_split 10 (d ∷ others) 1 below').1 in
    let cons : number_from_digits 10 (d ∷ others) ≡ d * 10 ^ length others + number_from_digits 10 others = number_cons d others in
    let some : 0 < number_from_digits 10 (d ∷ others) = some_number (d ∷ others) none' (λ z. absurd (omega (arith, ap length z))) in
    let end : IsTrue last ↔ (number_from_digits 10 others ≡ 0) = (λ t. rw (el.0 t) refl, λ z. el.1 (no_digits others none_after z)) in
    let power : 10 * 10 ^ length others ≡ 10 ^ suc (length others) = omega arith in
    let left : IsLostFraction lost (d * 10 ^ length others + number_from_digits 10 others) (10 * 10 ^ length others) = h (number_from_digits 10 others) (10 ^ length others) small end (rw cons at some) in
    rw e (subst (λ s. IsLostFraction lost s (10 ^ suc (length others))) (sym cons) (subst (λ m. IsLostFraction lost (d * 10 ^ length others + number_from_digits 10 others) m) power left))

-- the first digits of a fraction, as units, fit in 64 bits
pub part_room : (f : List ℕ) (n more : ℕ) → n ≤ 18 → AllBelowBase 10 f → more ≡ number_from_digits 10 (take n f) → more < 10 ^ n → more * 10 ^ (n - length f) < 2 ^ 64
part_room f n more l below e small = ⊎_elim
    (λ (k : n < length f). let z : 10 ^ (n - length f) ≡ 1 = ap (λ i. 10 ^ i) (let none : n - length f ≡ 0 = omega arith in none) in rw z (omega (arith, small, ten_most n l)))
    (λ (k : length f ≤ n).
    let all : more ≡ number_from_digits 10 f = e ∙ ap (number_from_digits 10) (take_all n f k) in
    let few : more < 10 ^ length f = rw all (number_lt 10 f below) in
    scaled_room more (length f) n few (omega arith) l)
    (cases_lt n (length f))

fraction_units : (f : List ℕ) (n more part : ℕ) → more ≡ number_from_digits 10 (take n f) → part ≡ more * 10 ^ (n - length f) → number_from_digits 10 f * 10 ^ n * 10 ^ length (drop n f) ≡ (part * 10 ^ length (drop n f) + number_from_digits 10 (drop n f)) * 10 ^ length f
fraction_units f n more part e ep = ⊎_elim long short (cases_lt n (length f))
  where
    long : n < length f → number_from_digits 10 f * 10 ^ n * 10 ^ length (drop n f) ≡ (part * 10 ^ length (drop n f) + number_from_digits 10 (drop n f)) * 10 ^ length f
    long k =
        let one : 10 ^ (n - length f) ≡ 1 = ap (λ i. 10 ^ i) (let none : n - length f ≡ 0 = omega arith in none) in
        let same : part ≡ number_from_digits 10 (take n f) = ep ∙ (rw one (omega arith)) ∙ e in
        let cut : number_from_digits 10 f ≡ number_from_digits 10 (take n f) * 10 ^ length (drop n f) + number_from_digits 10 (drop n f) = ap (number_from_digits 10) (sym (take-append-drop n f)) ∙ number_append 10 (take n f) (drop n f) in
        let power : 10 ^ length f ≡ 10 ^ n * 10 ^ length (drop n f) = ap (λ i. 10 ^ i) (let z : length f ≡ n + length (drop n f) = omega (arith, length-drop n f) in z) ∙ pow-add 10 n (length (drop n f)) in
        plain (number_from_digits 10 f) (number_from_digits 10 (take n f)) (number_from_digits 10 (drop n f)) (10 ^ n) (10 ^ length (drop n f)) (10 ^ length f) same cut power
      where
        plain : (x t r a d m : ℕ) → part ≡ t → x ≡ t * d + r → m ≡ a * d → x * a * d ≡ (part * d + r) * m
        plain x t r a d m same cut power = rw (same, power) (omega (arith, ap (λ y. y * a * d) cut))

    short : length f ≤ n → number_from_digits 10 f * 10 ^ n * 10 ^ length (drop n f) ≡ (part * 10 ^ length (drop n f) + number_from_digits 10 (drop n f)) * 10 ^ length f
    short k =
        let all : more ≡ number_from_digits 10 f = e ∙ ap (number_from_digits 10) (take_all n f k) in
        let power : 10 ^ n ≡ 10 ^ (n - length f) * 10 ^ length f = ap (λ i. 10 ^ i) (let z : n ≡ (n - length f) + length f = omega arith in z) ∙ pow-add 10 (n - length f) (length f) in
        rw (drop_all n f k) (plain (number_from_digits 10 f) (10 ^ n) (10 ^ (n - length f)) (10 ^ length f) (ep ∙ ap (λ x. x * 10 ^ (n - length f)) all) power)
      where
        plain : (x a u m : ℕ) → part ≡ x * u → a ≡ u * m → x * a * 1 ≡ (part * 1 + 0) * m
        plain x a u m same power = rw (same, power) (omega arith)

whole_over : (over : Bool) (w a : ℕ) → 0 < a → (IsTrue over ↔ (2 ^ 64 ≤ w)) → IsTrue over ↔ (0 < w / 2 ^ 64 * a)
whole_over over w a some o = (
  λ t. let l : 2 ^ 64 ≤ w = o.0 t in mul-pos (let q : 0 < w / 2 ^ 64 = omega arith in q) some,
  λ l. o.1 (least l),
)
  where
    least : 0 < w / 2 ^ 64 * a → 2 ^ 64 ≤ w
    least l = ⊎_elim (λ (k : w < 2 ^ 64). let z : w / 2 ^ 64 ≡ 0 = omega arith in let l' : 0 < 0 * a = rw z at l in absurd (omega (arith, l'))) (λ (k : 2 ^ 64 ≤ w). k) (cases_lt w (2 ^ 64))

pub counted_digits : (w f : List ℕ) (n low more part : ℕ) (count : Count) → low ≡ number_from_digits 10 w % 2 ^ 64 → (IsTrue count.is_over ↔ (2 ^ 64 ≤ number_from_digits 10 w)) → more ≡ number_from_digits 10 (take n f) → part ≡ more * 10 ^ (n - length f) → count.units ≡ low * 10 ^ n + part → IsLostFraction count.lost (number_from_digits 10 (drop n f)) (10 ^ length (drop n f)) → IsCounted (spelled 10 w f 0) n count
counted_digits w f n low more part count el eo em ep eu left = record {
  high = number_from_digits 10 w / 2 ^ 64 * 10 ^ n;
  rest = number_from_digits 10 (drop n f);
  unit = 10 ^ length (drop n f);
  some = ten_pos (length (drop n f));
  split = plain (number_from_digits 10 w) (number_from_digits 10 f) (number_from_digits 10 (w ++ f)) (10 ^ n) (10 ^ length (drop n f)) (10 ^ length f) (number_from_digits 10 w / 2 ^ 64) count.units (number_from_digits 10 (drop n f)) (number_append 10 w f) (sym (div-add-mod' (number_from_digits 10 w) (2 ^ 64)) ∙ ap (λ x. number_from_digits 10 w / 2 ^ 64 * 2 ^ 64 + x) (sym el)) eu (fraction_units f n more part em ep);
  left = left;
  over = whole_over count.is_over (number_from_digits 10 w) (10 ^ n) (ten_pos n) eo;
}
  where
    plain : (x y all a d m q c r : ℕ) → all ≡ x * m + y → x ≡ q * 2 ^ 64 + low → c ≡ low * a + part → y * a * d ≡ (part * d + r) * m → all * 1 * a * d ≡ ((q * a * 2 ^ 64 + c) * d + r) * m
    plain x y all a d m q c r one two three four = omega (arith, ap (λ z. z * a * d) one, ap (λ z. z * a * d * m) two, ap (λ z. z * d * m) three, four)
