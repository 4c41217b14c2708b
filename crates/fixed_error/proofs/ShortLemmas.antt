-- How far a short decimal is above a whole number.
use Rattle.std.proofs.Common.{◌≡◌, ℕ, suc, ◌+◌, ◌-◌, ◌*◌, ◌^◌, ◌<◌, ◌≤◌, Bool, false, List, refl, sym, ap, ◌∙◌, subst, arith, mul-le-mul_right, ℤ, pos, negsuc, ◌-ℤ◌}
use Rattle.std.specs.Prelude.{min, Option, Some, None}
use Rattle.std.proofs.Math.Nat.{one-le-pow, pow-zero}
use Rattle.std.proofs.lemmas.Int.{ints}
use Rattle.std.proofs.lemmas.Nat.{pow-add}
use Rattle.fixed_numeral.specs.Numeral.{Exponent, HasNumeral, Parts}
use Rattle.fixed_numeral.specs.PartNumbers.{IsShortNumeral, is_power_of_two, placed_magnitude}
use Rattle.fixed_numeral.specs.Value.{magnitude, scaled}
use Rattle.fixed_numeral.specs.declared.radix.Radix.TheVariants.{Dec}
use Rattle.fixed_error.specs.Errors.{parts}
use Rattle.fixed_error.specs.Inner.Rest.{IsBehind, IsRest, rest_of_word}
use Rattle.fixed_error.specs.declared.rest.Rest.{Rest}
use Rattle.fixed_error.proofs.GapLemmas.{cancel_lt}
use Rattle.fixed_error.proofs.RestLemmas.{cancel_eq, parts_pos}

-- ---- powers of ten
-- the places of a decimal and those left in two blocks make up all parts
pub places_left : (s h : ℕ) → s ≤ 27 → h ≡ min s 18 → 10 ^ (18 - h) * 10 ^ (18 - (s - h)) * 10 ^ s ≡ parts Dec
unfolding parts
places_left s h few is =
    let i : ℕ = 18 - h in
    let j : ℕ = 18 - (s - h) in
    let all : i + j + s ≡ 36 = omega (arith, few, is) in
    let one : 10 ^ (i + j + s) ≡ 10 ^ 36 = ap (λ k. 10 ^ k) all in
    let two : 10 ^ (i + j + s) ≡ 10 ^ (i + j) * 10 ^ s = pow-add 10 (i + j) s in
    let three : 10 ^ (i + j) * 10 ^ s ≡ 10 ^ i * 10 ^ j * 10 ^ s = ap (λ t. t * 10 ^ s) (pow-add 10 i j) in
    sym three ∙ (sym two ∙ one)

pub unit_parts : (unit : ℕ) → unit ≡ 10 ^ 18 → unit * unit ≡ parts Dec
unfolding parts
unit_parts unit e = ap (λ t. t * t) e

-- a fraction has at most all parts
pub parts_fit : (fraction power t p : ℕ) → fraction < t → power * t ≡ p → fraction * power ≤ p
parts_fit fraction power t p less e = let m : fraction * power ≤ t * power = mul-le-mul_right power (omega (arith, less)) in omega (arith, m, e)

pub parts_are : (fraction power t p : ℕ) → power * t ≡ p → fraction * power * t ≡ fraction * p
parts_are fraction power t p e = let m : fraction * (power * t) ≡ fraction * p = ap (λ x. fraction * x) e in omega (arith, m)

-- ---- a magnitude by its decimal places
by_places : (m b s : ℕ) (z : ℤ) → z ≡ pos 0 -ℤ pos s → (scaled m 1 b z).num * b ^ s ≡ m * (scaled m 1 b z).den
by_places m b s (pos x) e =
    let none : x ≡ 0 = omega (arith, ints, e) in
    let flat : s ≡ 0 = omega (arith, ints, e) in
    let u : b ^ x ≡ 1 = ap (λ k. b ^ k) none ∙ pow-zero b in
    let v : b ^ s ≡ 1 = ap (λ k. b ^ k) flat ∙ pow-zero b in
    let w : m * b ^ x * b ^ s ≡ m * 1 * 1 = ap (λ t. m * t * b ^ s) u ∙ ap (λ t. m * 1 * t) v in
    omega (arith, w)
by_places m b s (negsuc x) e =
    let places : s ≡ suc x = omega (arith, ints, e) in
    let u : m * b ^ s ≡ m * b ^ suc x = ap (λ k. m * b ^ k) places in
    omega (arith, u)

never_two : (x : Option Exponent) → is_power_of_two Dec x ≡ false
never_two None = refl
never_two (Some x) = refl

pub decimal_places : (p : Parts) (negative : Bool) (whole fraction places : ℕ) (exponent : ℤ) (two : Bool) → IsShortNumeral Dec p negative whole fraction places exponent two → exponent ≡ pos 0
    → (magnitude Dec p).num * 10 ^ places ≡ (whole * 10 ^ places + fraction) * (magnitude Dec p).den
decimal_places p negative whole fraction places exponent two h e =
    let digits : ℕ = whole * 10 ^ places + fraction in
    let none : two ≡ false = h.separator ∙ never_two p.exponent in
    let same : magnitude Dec p ≡ scaled digits 1 10 (exponent -ℤ pos places) = h.value ∙ ap (placed_magnitude Dec digits places exponent) none in
    rw same (by_places digits 10 places (exponent -ℤ pos places) (ap (λ x. x -ℤ pos places) e))

behind_by_places : (n d w f t p rest : ℕ) → 0 < t → n * t ≡ (w * t + f) * d → rest * t ≡ f * p → IsBehind n d p rest 0
behind_by_places n d w f t p rest some value is =
    let x : n * t * p ≡ (w * t + f) * d * p = ap (λ v. v * p) value in
    let y : rest * t * d ≡ f * p * d = ap (λ v. v * d) is in
    let same : (w * p + rest) * d ≡ n * p = cancel_eq ((w * p + rest) * d) (n * p) t some (omega (arith, x, y)) in
    record { ulps = w; at_least = omega (arith, same); at_most = omega (arith, same) }

pub decimal_rest : (text : List ℕ) (negative : Bool) (whole fraction places : ℕ) (exponent : ℤ) (two : Bool) (x : Rest) → ((p : Parts) → HasNumeral Dec text p → IsShortNumeral Dec p negative whole fraction places exponent two) → exponent ≡ pos 0
    → fraction < 10 ^ places → x.one ≡ parts Dec → x.rest * 10 ^ places ≡ fraction * parts Dec → x.slack ≡ 0 → IsRest Dec 0 text x
decimal_rest text negative whole fraction places exponent two x short flat less one rest slack =
    let t : ℕ = 10 ^ places in
    let part : ℕ = parts Dec in
    let one_more : 1 ≤ 10 ^ places = one-le-pow places 10 (omega arith) in
    let some : 0 < t = omega (arith, one_more) in
    let more : (fraction + 1) * part ≤ t * part = mul-le-mul_right part (omega (arith, less)) in
    let parts_some : 0 < part = parts_pos Dec in
    record {
      behind = λ p n.
          let value = decimal_places p negative whole fraction places exponent two (short p n) flat in
          let B : ℕ → Type 0 = λ s. IsBehind ((magnitude Dec p).num * 2 ^ 0) (magnitude Dec p).den part x.rest s in
          subst B (sym slack) (behind_by_places ((magnitude Dec p).num * 2 ^ 0) (magnitude Dec p).den whole fraction t part x.rest some (omega (arith, value)) rest);
      one = one;
      below = let low : x.rest < part = cancel_lt x.rest part t (omega (arith, rest, more, parts_some)) in omega (arith, low, one);
      few = omega (arith, slack);
    }

-- ---- the word of a short decimal
-- the parts of 10^-18 of its fraction
pub word_fits : (fraction s : ℕ) → s ≤ 18 → fraction < 10 ^ s → (fraction * 10 ^ (18 - s) * 10 ^ s ≡ fraction * 10 ^ 18) × (fraction * 10 ^ (18 - s) < 10 ^ 18)
word_fits fraction s few less =
    let all : 18 - s + s ≡ 18 = omega (arith, few) in
    let power : 10 ^ (18 - s) * 10 ^ s ≡ 10 ^ 18 = sym (pow-add 10 (18 - s) s) ∙ ap (λ k. 10 ^ k) all in
    let some : 1 ≤ 10 ^ (18 - s) = one-le-pow (18 - s) 10 (omega arith) in
    let m : (fraction + 1) * 10 ^ (18 - s) ≤ 10 ^ s * 10 ^ (18 - s) = mul-le-mul_right (10 ^ (18 - s)) (omega (arith, less)) in
    let same : fraction * (10 ^ (18 - s) * 10 ^ s) ≡ fraction * 10 ^ 18 = ap (λ t. fraction * t) power in
    (omega (arith, same), omega (arith, m, power, some))

-- the same in parts of 10^-36
pub word_parts : (word fraction t : ℕ) → word * t ≡ fraction * 10 ^ 18 → word * 10 ^ 18 * t ≡ fraction * parts Dec
unfolding parts
word_parts word fraction t e =
    let m : word * t * 10 ^ 18 ≡ fraction * 10 ^ 18 * 10 ^ 18 = ap (λ v. v * 10 ^ 18) e in
    omega (arith, m)

pub decimal_word : (text : List ℕ) (negative : Bool) (whole fraction places : ℕ) (exponent : ℤ) (two : Bool) (word : ℕ) → ((p : Parts) → HasNumeral Dec text p → IsShortNumeral Dec p negative whole fraction places exponent two) → exponent ≡ pos 0
    → fraction < 10 ^ places → word * 10 ^ places ≡ fraction * 10 ^ 18 → IsRest Dec 0 text (rest_of_word word)
unfolding rest_of_word
decimal_word text negative whole fraction places exponent two word short flat less is =
    decimal_rest text negative whole fraction places exponent two (record { one = 10 ^ 18 * 10 ^ 18; rest = word * 10 ^ 18; slack = 0 }) short flat less (unit_parts (10 ^ 18) refl) (word_parts word fraction (10 ^ places) is) refl
