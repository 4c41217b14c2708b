-- Halves of decimal fractions.
use Rattle.std.proofs.Common.{◌≡◌, ◌∙◌, ℕ, zero, suc, ◌+◌, ◌*◌, ◌/◌, ◌%◌, ◌^◌, ◌<◌, ◌++◌, List, [], ◌∷◌, false, length, take, get_or, refl, sym, ap, subst, arith, length-append, ◌-◌}
use Rattle.std.specs.Prelude.{codes}
use Rattle.std.specs.Char.{digit_value}
use Rattle.std.specs.Fmt.{digit_glyph}
use Rattle.std.specs.Int.{IsInRange}
use Rattle.std.specs.Str.Parse.{AllDigits, digits_value}
use Rattle.std.proofs.lemmas.Int.Digits.{digits_push, digits_value_more, digits_value_push}
use Rattle.std.proofs.Math.Seq.{take-length}
use Rattle.std.proofs.lemmas.Str.Parse.{digit_at}
use Rattle.fixed_write.specs.Texts.{last_digits}
use Rattle.fixed_write.proofs.Public.{last_digits_none, last_digits_suc}
use Rattle.fixed.specs.Fit.{half_power}
use Rattle.fixed.specs.Inner.Fractions.{IsFraction}

glyph_of : (d : ℕ) → d < 10 → digit_glyph false d ≡ 48 + d
glyph_of d h = grind arith

value_of : (d : ℕ) → d < 10 → digit_value (48 + d) ≡ d
value_of d h = grind arith

value_at : (b : ℕ) → IsInRange 48 57 b → digit_value b ≡ b - 48
value_at b at = grind (arith, at)

-- zero digits
pub none : IsFraction 0 0 []
none = record { text = sym (last_digits_none 10 false 0); are = tt; value = refl; long = refl }

-- one more digit
pub one_more : (k n d c : ℕ) (ds : List ℕ) → IsFraction k n ds → d < 10 → c ≡ 48 + d → IsFraction (k + 1) (n * 10 + d) (ds ++ c ∷ [])
one_more k n d c ds x h e =
    let whole : (n * 10 + d) / 10 ≡ n = omega arith in
    let last : (n * 10 + d) % 10 ≡ d = omega arith in
    let value : digit_value c ≡ d = ap digit_value e ∙ value_of d h in
    record {
      text = ap (λ (l : List ℕ). l ++ c ∷ []) x.text
          ∙ (ap (λ (g : ℕ). last_digits 10 false k n ++ g ∷ []) (e ∙ sym (glyph_of d h))
          ∙ (sym (last_digits_suc 10 false k (n * 10 + d) ∙ rw (whole, last) refl) ∙ ap (λ i. last_digits 10 false i (n * 10 + d)) (omega arith)));
      are = digits_push 10 ds c x.are (omega (arith, value));
      value = digits_value_push 10 ds c ∙ omega (arith, x.value, value);
      long = length-append ds (c ∷ []) ∙ omega (arith, x.long);
    }

-- the digits of half of the digits read so far, and the remainder of the halving
pub record IsHalving (digits half : List ℕ) (at rest : ℕ) : Type 0 where
  pub half_is : IsFraction at (digits_value 10 (take at digits) / 2) half
  pub rest_is : rest ≡ digits_value 10 (take at digits) % 2

pub begun : (digits : List ℕ) → IsHalving digits [] 0 0
begun digits = record { half_is = none; rest_is = refl }

pub digit_in : (digits : List ℕ) (at : ℕ) → AllDigits 10 digits → at < length digits → IsInRange 48 57 (get_or digits at 0)
digit_in digits at d low = digit_at digits at d low

pub halving : (digits half more : List ℕ) (at rest all c : ℕ) → AllDigits 10 digits → at < length digits → IsHalving digits half at rest
    → all ≡ 10 * rest + (get_or digits at 0 - 48) → c ≡ 48 + all / 2 → more ≡ half ++ c ∷ [] → IsHalving digits more (at + 1) (all % 2)
halving digits half more at rest all c d low x e f g =
    let here = digit_at digits at d low in
    let v : ℕ = digits_value 10 (take at digits) in
    let value : digits_value 10 (take (at + 1) digits) ≡ v * 10 + digit_value (get_or digits at 0) = digits_value_more 10 digits at low in
    let digit : digit_value (get_or digits at 0) ≡ get_or digits at 0 - 48 = value_at (get_or digits at 0) here in
    let next : digits_value 10 (take (at + 1) digits) / 2 ≡ v / 2 * 10 + all / 2 = omega (arith, value, digit, here, e, x.rest_is) in
    record {
      half_is = subst (λ (l : List ℕ). IsFraction (at + 1) (digits_value 10 (take (at + 1) digits) / 2) l) (sym g)
          (subst (λ n. IsFraction (at + 1) n (half ++ c ∷ [])) (sym next) (one_more at (v / 2) (all / 2) c half x.half_is (omega (arith, e, here, x.rest_is)) f));
      rest_is = omega (arith, value, digit, here, e, x.rest_is);
    }

pub halved_is : (digits half more : List ℕ) (at rest c : ℕ) → at ≡ length digits → IsHalving digits half at rest → c ≡ 48 + 5 * rest
    → more ≡ half ++ c ∷ [] → IsFraction (length digits + 1) (5 * digits_value 10 digits) more
halved_is digits half more at rest c e x f g =
    let all : take at digits ≡ digits = ap (λ i. take i digits) e ∙ take-length digits in
    let value : digits_value 10 (take at digits) ≡ digits_value 10 digits = ap (digits_value 10) all in
    let v : ℕ = digits_value 10 (take at digits) in
    let made = one_more at (v / 2) (5 * rest) c half x.half_is (omega (arith, x.rest_is)) f in
    let same : v / 2 * 10 + 5 * rest ≡ 5 * digits_value 10 digits = omega (arith, value, x.rest_is) in
    subst (λ (l : List ℕ). IsFraction (length digits + 1) (5 * digits_value 10 digits) l) (sym g)
    (subst (λ i. IsFraction (i + 1) (5 * digits_value 10 digits) (half ++ c ∷ [])) e (subst (λ n. IsFraction (at + 1) n (half ++ c ∷ [])) same made))

-- ---- powers of a half
pub first_power : IsFraction 1 (5 ^ 1) (53 ∷ [])
first_power = one_more 0 0 5 53 [] none (omega arith) refl

pub power_is : (k : ℕ) (ds text : List ℕ) → 0 < k → IsFraction k (5 ^ k) ds → text ≡ codes "0." ++ ds → text ≡ half_power k
power_is zero ds text some x e = absurd (omega arith)
power_is (suc k) ds text some x e = e ∙ ap (λ (l : List ℕ). codes "0." ++ l) x.text
