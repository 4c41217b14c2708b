-- Whole ulps modulo a power of two.
use Rattle.std.proofs.Common.{false, ◌≡◌, ℕ, ◌+◌, ◌-◌, ◌*◌, ◌/◌, ◌%◌, ◌^◌, ◌<◌, ◌≤◌, ◌⊎◌, ◌↔◌, Bool, IsTrue, List, ◌++◌, length, sym, ap, ◌∙◌, arith, pow_pos, mul-le-mul_right, div-add-mod', mod-lt, ⊎_elim, inl, inr}
use Rattle.std.proofs.lemmas.Bool.{cases_lt}
use Rattle.std.proofs.lemmas.Nat.{pow-add}
use Rattle.std.proofs.Math.Nat.{one-le-pow, pow-le-pow_right}
use Rattle.std.specs.Int.Digits.{number_from_digits}
use Rattle.fixed_numeral.proofs.Public.{number_append}
use Rattle.fixed_numeral.specs.Spelled.{spelled}
use Rattle.fixed_bits.specs.declared.mode.ReadMode.{ReadMode}
use Rattle.fixed_bits.specs.declared.rounding.LostFraction.{LostFraction}
use Rattle.fixed_bits.specs.Rounded.{IsRounded}
use Rattle.fixed_read.specs.Reading.{IsMultipleOf}
use Rattle.fixed_bits.specs.LostFractions.{IsLostFraction}
use Rattle.fixed_read.specs.Inner.Rounding.{IsFractionUlps, IsMagnitude}
use Rattle.fixed_read.specs.declared.magnitude.Ulps.{Ulps}
use Rattle.fixed_bits.proofs.Public.{rounded_same}
use Rattle.fixed_read.proofs.LostLemmas.{tail_within}
use Rattle.fixed_read.proofs.MultipleLemmas.{exact_rest}

-- the low bits of the whole part, moved up, have room
pub moved_room : (w m t n : ℕ) → m ≡ n - t → w < 2 ^ m → w * 2 ^ t < 2 ^ n + 2 ^ t
moved_room w m t n e l = ⊎_elim
    (λ (k : n < t). let z : m ≡ 0 = omega arith in low z)
    (λ (k : t ≤ n). let z : m + t ≡ n = omega arith in
    let p : 2 ^ m * 2 ^ t ≡ 2 ^ n = sym (pow-add 2 m t) ∙ ap (λ i. 2 ^ i) z in
    omega (arith, mul-le-mul_right (2 ^ t) l, p, pow_pos t))
    (cases_lt n t)
  where
    low : m ≡ 0 → w * 2 ^ t < 2 ^ n + 2 ^ t
    low z = let one : w < 1 = rw z at l in let none : w ≡ 0 = omega arith in rw none (omega (arith, pow_pos t))

-- the high and the low bits of the ulps
pub record Cut (number n total : ℕ) (over beyond : Bool) : Type 0 where
  pub high : ℕ
  pub split : number ≡ high * 2 ^ n + total % 2 ^ n
  pub flag : IsTrue beyond ↔ (0 < high)

pub cut : (w m t n more : ℕ) (over beyond : Bool) → m ≡ n - t → (IsTrue over ↔ (2 ^ m ≤ w)) → (IsTrue beyond ↔ (IsTrue over ⊎ (0 < (w % 2 ^ m * 2 ^ t + more) / 2 ^ n))) → Cut (w * 2 ^ t + more) n (w % 2 ^ m * 2 ^ t + more) over beyond
cut w m t n more over beyond e o f =
    let moved : 2 ^ m * 2 ^ t ≡ 2 ^ (m + t - n) * 2 ^ n = sym (pow-add 2 m t) ∙ ap (λ i. 2 ^ i) (let z : m + t ≡ (m + t - n) + n = omega arith in z) ∙ pow-add 2 (m + t - n) n in
    let whole : w / 2 ^ m * 2 ^ m + w % 2 ^ m ≡ w = div-add-mod' w (2 ^ m) in
    let total : w % 2 ^ m * 2 ^ t + more ≡ (w % 2 ^ m * 2 ^ t + more) / 2 ^ n * 2 ^ n + (w % 2 ^ m * 2 ^ t + more) % 2 ^ n = sym (div-add-mod' (w % 2 ^ m * 2 ^ t + more) (2 ^ n)) in
    record {
      high = w / 2 ^ m * 2 ^ (m + t - n) + (w % 2 ^ m * 2 ^ t + more) / 2 ^ n;
      split = omega (arith, ap (λ x. x * (2 ^ t)) whole, ap (λ x. (w / 2 ^ m) * x) moved, total);
      flag = (
        λ b. ⊎_elim (λ v. some_left (w / 2 ^ m) (2 ^ (m + t - n)) _ (large w (2 ^ m) (pow_pos m) (o.0 v)) (pow_pos (m + t - n))) (λ v. some_right _ _ v) (f.0 b),
        λ p. f.1 (⊎_elim (λ (l : 0 < w / 2 ^ m). inl (o.1 (least w (2 ^ m) l))) (λ (l : w / 2 ^ m ≤ 0). inr (right_some (w / 2 ^ m) (2 ^ (m + t - n)) _ l p)) (cases_lt 0 (w / 2 ^ m))),
      );
    }
  where
    large : (x d : ℕ) → 0 < d → d ≤ x → 0 < x / d
    large x d pos l = ⊎_elim (λ (k : 0 < x / d). k) (λ (k : x / d ≤ 0). let z : x / d ≡ 0 = omega arith in absurd (omega (arith, div-add-mod' x d, mod-lt x pos, ap (λ i. i * d) z))) (cases_lt 0 (x / d))

    least : (x d : ℕ) → 0 < x / d → d ≤ x
    least x d l = omega (arith, div-add-mod' x d, mul-le-mul_right d l)

    some_left : (a k h : ℕ) → 0 < a → 0 < k → 0 < a * k + h
    some_left a k h p l = omega (arith, mul-le-mul_right k p)

    some_right : (x h : ℕ) → 0 < h → 0 < x + h
    some_right x h l = omega arith

    right_some : (a k h : ℕ) → a ≤ 0 → 0 < a * k + h → 0 < h
    right_some a k h z l = let none : a ≡ 0 = omega arith in let l2 : 0 < 0 * k + h = rw none at l in omega arith

-- the parity of the ulps is that of their low bits
pub parity : (w m t n p : ℕ) → 0 < n → m ≡ n - t → (w * 2 ^ t + p) % 2 ≡ (w % 2 ^ m * 2 ^ t + p) % 2
parity w m t n p pos e =
    let two : 2 ^ m * 2 ^ t ≡ 2 ^ (m + t - 1) * 2 = sym (pow-add 2 m t) ∙ ap (λ i. 2 ^ i) (let z : m + t ≡ (m + t - 1) + 1 = omega arith in z) ∙ pow-add 2 (m + t - 1) 1 in
    even w (w / 2 ^ m) (w % 2 ^ m) (2 ^ m) (2 ^ t) (2 ^ (m + t - 1)) (div-add-mod' w (2 ^ m)) two
  where
    even : (w a l x q k : ℕ) → a * x + l ≡ w → x * q ≡ k * 2 → (w * q + p) % 2 ≡ (l * q + p) % 2
    even w a l x q k e1 e2 =
        let more : w * q + p ≡ 2 * (a * k) + (l * q + p) = omega (arith, ap (λ x. x * q) e1, ap (λ x. a * x) e2) in
        rw more (omega arith)

-- ---- together
pub record Rounded (r : ReadMode) (b : ℕ) (w f : List ℕ) (s frac number : ℕ) (flag : Bool) : Type 0 where
  pub to : IsRounded r false ((spelled b w f s).num * 2 ^ frac) (spelled b w f s).den number
  pub exact : IsTrue flag ↔ IsMultipleOf (spelled b w f s).den ((spelled b w f s).num * 2 ^ frac)

pub rounded : (r : ReadMode) (b : ℕ) (w f : List ℕ) (s frac t p more : ℕ) (lost : LostFraction) (exact : Bool) → 0 < b → t ≡ frac + s → (h : IsFractionUlps b f t p lost) → IsRounded r false ((number_from_digits b w * 2 ^ t + p) * h.ulps.unit + h.ulps.rest) h.ulps.unit (number_from_digits b w * 2 ^ t + p + more) → ((y den : ℕ) → 0 < den → IsLostFraction lost y den → IsTrue exact ↔ (y ≡ 0)) → Rounded r b w f s frac (number_from_digits b w * 2 ^ t + p + more) exact
rounded r b w f s frac t p more lost exact pos et h to none =
    let number : number_from_digits b (w ++ f) ≡ number_from_digits b w * b ^ length f + number_from_digits b f = number_append b w f in
    let power : 2 ^ t ≡ 2 ^ frac * 2 ^ s = ap (λ i. 2 ^ i) et ∙ pow-add 2 frac s in
    let cross : ((number_from_digits b w * 2 ^ t + p) * h.ulps.unit + h.ulps.rest) * b ^ length f ≡ number_from_digits b (w ++ f) * 2 ^ s * 2 ^ frac * h.ulps.unit = crossed (number_from_digits b w) (number_from_digits b f) (number_from_digits b (w ++ f)) (b ^ length f) (2 ^ t) (2 ^ frac) (2 ^ s) p h.ulps.unit h.ulps.rest number power h.ulps.split in
    let test = exact_rest (number_from_digits b (w ++ f) * 2 ^ s * 2 ^ frac) (b ^ length f) (number_from_digits b w * 2 ^ t + p) h.ulps.unit h.ulps.rest (one-le-pow (length f) b pos) h.ulps.some (tail_within lost h.ulps.rest h.ulps.unit h.ulps.some h.ulps.left) (sym cross) in
    record {
      to = rounded_same r false _ h.ulps.unit _ (b ^ length f) _ h.ulps.some (one-le-pow (length f) b pos) cross to;
      exact = (λ e. test.0 ((none h.ulps.rest h.ulps.unit h.ulps.some h.ulps.left).0 e), λ m. (none h.ulps.rest h.ulps.unit h.ulps.some h.ulps.left).1 (test.1 m));
    }
  where
    crossed : (w n a x t u v p d y : ℕ) → a ≡ w * x + n → t ≡ u * v → n * t * d ≡ (p * d + y) * x → ((w * t + p) * d + y) * x ≡ a * v * u * d
    crossed w n a x t u v p d y e1 e2 e3 =
        let one : a * v * u ≡ (w * x + n) * t = rw (e1, e2) (omega arith) in
        rw one (omega (arith, e3))

-- restated for the body
pub low_is : (m t n w low : ℕ) → m ≡ n - t → low ≡ w % 2 ^ m → low * 2 ^ t < 2 ^ n + 2 ^ t
low_is m t n w low e k = rw k (moved_room (w % 2 ^ m) m t n e (mod-lt w (pow_pos m)))

pub sum_room : (m t n w low moved p most : ℕ) → n ≤ 64 → t ≤ 68 → m ≡ n - t → low ≡ w % 2 ^ m → moved ≡ low * 2 ^ t → p < 2 ^ t → most ≤ 1 → moved + p + most < 2 ^ 70
sum_room m t n w low moved p most hn ht e k em small one =
    let room = low_is m t n w low e k in
    omega (arith, room, pow-le-pow_right {n = 2} (omega arith) hn, pow-le-pow_right {n = 2} (omega arith) ht)

pub magnitude_is : (r : ReadMode) (b m n s frac t low moved p more high : ℕ) (w f : List ℕ) (lost : LostFraction) (over : Bool) (ulps : Ulps) → 0 < b → n ≡ 64 → t ≡ frac + s → m ≡ n - t → low ≡ number_from_digits b w % 2 ^ m → (IsTrue over ↔ (2 ^ m ≤ number_from_digits b w)) → moved ≡ low * 2 ^ t → IsFractionUlps b f t p lost → ((q y den : ℕ) → 0 < den → q % 2 ≡ (moved + p) % 2 → IsLostFraction lost y den → IsRounded r false (q * den + y) den (q + more)) → ((y den : ℕ) → 0 < den → IsLostFraction lost y den → IsTrue ulps.is_exact ↔ (y ≡ 0)) → high ≡ (moved + p + more) / 2 ^ n → ulps.low ≡ (moved + p + more) % 2 ^ n → (IsTrue ulps.has_high_bits ↔ (IsTrue over ⊎ (0 < high))) → IsMagnitude r (spelled b w f s) frac ulps
magnitude_is r b m n s frac t low moved p more high w f lost over ulps pos en et em el eo ev h up none eh ebits eb =
    let some : 0 < n = omega (arith, en) in
    let low_is : moved ≡ number_from_digits b w % 2 ^ m * 2 ^ t = ev ∙ ap (λ x. x * 2 ^ t) el in
    let odd : (number_from_digits b w * 2 ^ t + p) % 2 ≡ (moved + p) % 2 = parity (number_from_digits b w) m t n p some em ∙ ap (λ x. (x + p) % 2) (sym low_is) in
    let steps = rounded r b w f s frac t p more lost ulps.is_exact pos et h (up (number_from_digits b w * 2 ^ t + p) h.ulps.rest h.ulps.unit h.ulps.some odd h.ulps.left) none in
    let together : moved + p + more ≡ number_from_digits b w % 2 ^ m * 2 ^ t + (p + more) = omega (arith, low_is) in
    let parts = cut (number_from_digits b w) m t n (p + more) over ulps.has_high_bits em eo (rw (eh, together) at eb) in
    let all : number_from_digits b w * 2 ^ t + p + more ≡ number_from_digits b w * 2 ^ t + (p + more) = omega arith in
    record {
      high = parts.high;
      to = rw (all ∙ parts.split ∙ ap (λ x. parts.high * 2 ^ n + x) (ap (λ x. x % 2 ^ n) (sym together) ∙ sym ebits) ∙ ap (λ i. parts.high * 2 ^ i + ulps.low) en) at steps.to;
      over = parts.flag;
      exact = steps.exact;
    }
