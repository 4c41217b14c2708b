-- The figures of a number with an exponent.
use Rattle.std.proofs.Common.{◌≡◌, ℕ, zero, suc, ◌+◌, ◌-◌, ◌*◌, ◌/◌, ◌%◌, ◌^◌, ◌<◌, ◌≤◌, ◌⊎◌, Bool, true, false, List, [], ◌∷◌, ◌++◌, length, replicate, ℤ, pos, negsuc, ◌+ℤ◌, ◌-ℤ◌, refl, sym, subst, ap, ◌∙◌, inl, inr, ⊎_elim, arith, pow_pos, pow-suc, mul-le-mul_right, mul-le-mul_left, length-append, append_assoc}
use Rattle.std.specs.Prelude.{Option, Some}
use Rattle.std.proofs.lemmas.Int.{ints}
use Rattle.std.proofs.lemmas.Bool.{cases_lt}
use Rattle.std.proofs.lemmas.List.{length-replicate}
use Rattle.std.proofs.Math.Nat.{one-le-pow, pow-zero, pow-le-pow_right, le_of_mul-le-mul_left, lt_of_mul-lt-mul_left}
use Rattle.std.specs.Fmt.{digit_glyph}
use Rattle.fixed_bits.specs.Nearest.{IsNearest}
use Rattle.fixed_bits.proofs.Public.{nearest_scaled}
use Rattle.fixed_write.specs.declared.style.Notation.{Notation}
use Rattle.fixed_write.specs.Shortest.{IsShortest}
use Rattle.fixed_write.specs.Texts.{whole_digits, last_digits, zero_digit}
use Rattle.fixed_write.specs.Styled.{IsExponentBody, ten_up, ten_down, pointed, exponent_text}
use Rattle.fixed_write.specs.Inner.Fraction.{IsShortestFraction}
use Rattle.fixed_write.specs.Inner.Figures.{IsLeading, HasRoundedFigures, HasShortFigures, HasFigureText, HasExponentBody}
use Rattle.fixed_write.proofs.DigitLemmas.{whole_digits_split, whole_digits_more, last_digits_push}
use Rattle.fixed_write.proofs.SixteenLemmas.{whole_digit}
use Rattle.fixed_write.proofs.ShortestLemmas.{last_is_some}
use Rattle.fixed_write.proofs.ScaleLemmas.{in_units, whole_power}
use Rattle.fixed_write.proofs.PrintingLemmas.{whole_shortest}
use Rattle.fixed_write.proofs.LeadingLemmas.{whole_zeros}

-- ---- the powers of ten for t - s, if t or s is 0
tens_pos : (x : ℤ) (t : ℕ) → x ≡ pos t → (ten_up x ≡ 10 ^ t) × (ten_down x ≡ 10 ^ 0)
tens_pos x t e = let P : ℤ → Type 0 = λ y. (ten_up y ≡ 10 ^ t) × (ten_down y ≡ 10 ^ 0) in subst P (sym e) (refl, sym (pow-zero 10))

tens_neg : (x : ℤ) (s : ℕ) → x ≡ negsuc s → (ten_up x ≡ 10 ^ 0) × (ten_down x ≡ 10 ^ suc s)
tens_neg x s e = let P : ℤ → Type 0 = λ y. (ten_up y ≡ 10 ^ 0) × (ten_down y ≡ 10 ^ suc s) in subst P (sym e) (sym (pow-zero 10), refl)

pub tens_of : (t s : ℕ) → (s ≡ 0) ⊎ (t ≡ 0) → (ten_up (pos t -ℤ pos s) ≡ 10 ^ t) × (ten_down (pos t -ℤ pos s) ≡ 10 ^ s)
tens_of t zero one = tens_pos (pos t -ℤ pos 0) t (omega (arith, ints))
tens_of t (suc s) (inl none) = absurd (omega arith)
tens_of zero (suc s) (inr none) = tens_neg (pos 0 -ℤ pos (suc s)) s (omega (arith, ints))
tens_of (suc t) (suc s) (inr none) = absurd (omega arith)

-- ---- from units of 2^-64 to ulps of 2^-g
pub record InUlps (u c g d : ℕ) : Type 0 where
  pub some : 0 < u
  pub value : d ≡ u * c
  pub unit : 2 ^ 64 ≡ u * 2 ^ g

pub in_ulps_of : (m g w r : ℕ) → g ≤ 64 → w ≡ m / 2 ^ g → r ≡ m % 2 ^ g * 2 ^ (64 - g) → InUlps (2 ^ (64 - g)) m g (w * 2 ^ 64 + r)
in_ulps_of m g w r l e f = record {
  some = pow_pos (64 - g);
  value = in_units m g w r l e f;
  unit = whole_power g l ∙ swapped (2 ^ g) (2 ^ (64 - g));
}
  where
    swapped : (x y : ℕ) → x * y ≡ y * x
    swapped x y = omega arith

decade_low : (u c g d a b t s : ℕ) → InUlps u c g d → IsLeading d a b t s → 10 ^ t * 2 ^ g ≤ c * 10 ^ s
decade_low u c g d a b t s h l =
    let low : 10 ^ t * 2 ^ 64 ≤ d * 10 ^ s = (let more : 10 ^ t * 2 ^ 64 ≤ a * 2 ^ 64 = mul-le-mul_right (2 ^ 64) l.low in omega (arith, l.scaled)) in
    let left : u * (10 ^ t * 2 ^ g) ≡ 10 ^ t * 2 ^ 64 = rw h.unit (turned u (10 ^ t) (2 ^ g)) in
    let right : u * (c * 10 ^ s) ≡ d * 10 ^ s = rw h.value (grouped u c (10 ^ s)) in
    le_of_mul-le-mul_left {k = u} (omega arith) h.some
  where
    turned : (u x y : ℕ) → u * (x * y) ≡ x * (u * y)
    turned u x y = omega arith

    grouped : (u x y : ℕ) → u * (x * y) ≡ u * x * y
    grouped u x y = omega arith

decade_high : (u c g d a b t s : ℕ) → b < 2 ^ 64 → InUlps u c g d → IsLeading d a b t s → c * 10 ^ s < 10 * 10 ^ t * 2 ^ g
decade_high u c g d a b t s small h l =
    let high : d * 10 ^ s < 10 * 10 ^ t * 2 ^ 64 = (let next : a + 1 ≤ 10 ^ suc t = omega (arith, l.high) in let more : (a + 1) * 2 ^ 64 ≤ 10 ^ suc t * 2 ^ 64 = mul-le-mul_right (2 ^ 64) next in let e : 10 ^ suc t ≡ 10 * 10 ^ t = rw pow-suc (omega arith) in let more' : (a + 1) * 2 ^ 64 ≤ 10 * 10 ^ t * 2 ^ 64 = rw e at more in omega (arith, l.scaled)) in
    let left : u * (c * 10 ^ s) ≡ d * 10 ^ s = rw h.value (grouped u c (10 ^ s)) in
    let right : u * (10 * 10 ^ t * 2 ^ g) ≡ 10 * 10 ^ t * 2 ^ 64 = rw h.unit (turned u (10 * 10 ^ t) (2 ^ g)) in
    lt_of_mul-lt-mul_left u (omega arith)
  where
    turned : (u x y : ℕ) → u * (x * y) ≡ x * (u * y)
    turned u x y = omega arith

    grouped : (u x y : ℕ) → u * (x * y) ≡ u * x * y
    grouped u x y = omega arith

near_ulps : (u c g d a b t s p m : ℕ) → InUlps u c g d → IsLeading d a b t s → IsNearest ((a * 2 ^ 64 + b) * 10 ^ p) (2 ^ 64 * 10 ^ t) m → IsNearest (c * 10 ^ p * 10 ^ s) (10 ^ t * 2 ^ g) m
near_ulps u c g d a b t s p m h l near =
    let num : (a * 2 ^ 64 + b) * 10 ^ p ≡ u * (c * 10 ^ p * 10 ^ s) = ap (λ x. x * 10 ^ p) (sym l.scaled) ∙ rw h.value (regroup u c (10 ^ s) (10 ^ p)) in
    let den : 2 ^ 64 * 10 ^ t ≡ u * (10 ^ t * 2 ^ g) = rw h.unit (turned u (2 ^ g) (10 ^ t)) in
    (nearest_scaled u (c * 10 ^ p * 10 ^ s) (10 ^ t * 2 ^ g) m h.some).0 (rw (num, den) at near)
  where
    regroup : (u c s p : ℕ) → u * c * s * p ≡ u * (c * p * s)
    regroup u c s p = omega arith

    turned : (u x y : ℕ) → u * x * y ≡ u * (y * x)
    turned u x y = omega arith

-- ---- the rounded figures
pub rounded_kept : (u c g d a b t s p zeros : ℕ) (digits : List ℕ) (e : ℤ) (carried : Bool) → 0 < c → b < 2 ^ 64 → InUlps u c g d → IsLeading d a b t s → HasRoundedFigures p (a * 2 ^ 64 + b) t digits zeros carried → carried ≡ false → e ≡ pos t -ℤ pos s → HasFigureText (Some p) c g digits zeros e
rounded_kept u c g d a b t s p more digits e carried positive small h l r no' ee =
    let tens = tens_of t s l.one in
    record {
      zero = λ z. absurd (omega arith);
      some = λ q. (
        r.number,
        record {
          decade = pos t -ℤ pos s;
          is_decade = record { low = rw (tens.0, tens.1) (decade_low u c g d a b t s h l); high = rw (tens.0, tens.1) (decade_high u c g d a b t s small h l) };
          number = r.number;
          near = rw (tens.0, tens.1) (near_ulps u c g d a b t s p r.number h l r.near);
          kept = λ other. (refl, ee);
          carried = λ same. absurd ((r.kept no').0 same);
        },
        (r.kept no').1,
      );
    }

pub rounded_raised : (u c g d a b t s p zeros : ℕ) (digits : List ℕ) (e : ℤ) (carried : Bool) → 0 < c → b < 2 ^ 64 → InUlps u c g d → IsLeading d a b t s → HasRoundedFigures p (a * 2 ^ 64 + b) t digits zeros carried → carried ≡ true → e ≡ (pos t -ℤ pos s) +ℤ pos 1 → HasFigureText (Some p) c g digits zeros e
rounded_raised u c g d a b t s p more digits e carried positive small h l r up ee =
    let tens = tens_of t s l.one in
    record {
      zero = λ z. absurd (omega arith);
      some = λ q. (
        10 ^ p,
        record {
          decade = pos t -ℤ pos s;
          is_decade = record { low = rw (tens.0, tens.1) (decade_low u c g d a b t s h l); high = rw (tens.0, tens.1) (decade_high u c g d a b t s small h l) };
          number = r.number;
          near = rw (tens.0, tens.1) (near_ulps u c g d a b t s p r.number h l r.near);
          kept = λ other. absurd (other (r.raised up).0);
          carried = λ same. (refl, ee);
        },
        (r.raised up).1,
      );
    }

-- ---- the shortest figures
pub short_fraction : (c g number places digit : ℕ) (digits : List ℕ) (e : ℤ) → IsShortestFraction c g number places digit → digits ≡ whole_digits 10 false (c / 2 ^ g * 10 ^ (places + 1) + (number * 10 + digit)) → e ≡ pos (length digits) -ℤ pos (places + 2) → HasShortFigures c g digits e
short_fraction c g number places digit digits e h ed ee =
    let n : ℕ = c / 2 ^ g * 10 ^ suc places + (number * 10 + digit) in
    let one : places + 1 ≡ suc places = omega arith in
    let ed' : digits ≡ whole_digits 10 false (c / 2 ^ g * 10 ^ suc places + (number * 10 + digit)) = rw one at ed in
    record {
      figures = c / 2 ^ g * 10 ^ suc places + (number * 10 + digit);
      are_figures = record {
        number = c / 2 ^ g * 10 ^ suc places + (number * 10 + digit);
        places = suc places;
        zeros = 0;
        shortest = h.shortest;
        figures = rw pow-zero (omega arith);
        last = last_is_some c g (c / 2 ^ g * 10 ^ suc places + (number * 10 + digit)) places h.shortest;
        exponent = ee ∙ (rw ed' (ap (λ i. pos (length (whole_digits 10 false (c / 2 ^ g * 10 ^ suc places + (number * 10 + digit)))) -ℤ pos i) (let two : places + 2 ≡ suc places + 1 = omega arith in two)));
      };
      digits_are = ed';
    }

-- n is m with z trailing zeros
pub record Stripped (n m z : ℕ) : Type 0 where
  pub value : n ≡ m * 10 ^ z
  pub some : 0 < m

pub stripped_none : (n : ℕ) → 0 < n → Stripped n n 0
stripped_none n p = record { value = rw pow-zero (omega arith); some = p }

pub stripped_more : (n m z : ℕ) → Stripped n m z → m % 10 ≡ 0 → Stripped n (m / 10) (suc z)
stripped_more n m z h e =
    let ten : m ≡ m / 10 * 10 = omega arith in
    let all : m * 10 ^ z ≡ m / 10 * 10 * 10 ^ z = ap (λ x. x * 10 ^ z) ten in
    record {
      value = rw pow-suc (h.value ∙ (all ∙ turned (m / 10) (10 ^ z)));
      some = omega (arith, h.some);
    }
  where
    turned : (x y : ℕ) → x * 10 * y ≡ x * (y * 10)
    turned x y = omega arith

pub stripped_few : (n m z : ℕ) → n < 2 ^ 64 → Stripped n m z → z ≤ 19
stripped_few n m z small h = ⊎_elim (λ a. omega arith) (λ (a : 20 ≤ z).
    let big : 10 ^ 20 ≤ 10 ^ z = pow-le-pow_right (omega arith) a in
    let once : 1 * 10 ^ z ≤ m * 10 ^ z = mul-le-mul_right (10 ^ z) h.some in
    absurd (omega (arith, h.value))) (cases_lt z 20)

pub short_whole : (c g w m z first : ℕ) (digits : List ℕ) (e : ℤ) → first ≡ c % 2 ^ g * 2 ^ (64 - g) → first ≡ 0 → w ≡ c / 2 ^ g → 0 < m → w ≡ m * 10 ^ z → (m % 10 ≡ 0 → ⊥) → digits ≡ whole_digits 10 false m → e ≡ pos (length digits + z) -ℤ pos 1 → HasShortFigures c g digits e
short_whole c g w m z first digits e f none ew some value last ed ee =
    let shortest : IsShortest c g w 0 = rw ew (whole_shortest c g first f none) in
    let long : length (whole_digits 10 false w) ≡ length digits + z = rw (value, ed) (ap length (whole_zeros m z some) ∙ (length-append (whole_digits 10 false m) (replicate z zero_digit) ∙ ap (λ x. length (whole_digits 10 false m) + x) (length-replicate {A = ℕ} z zero_digit))) in
    record {
      figures = m;
      are_figures = record {
        number = w;
        places = 0;
        zeros = z;
        shortest = shortest;
        figures = value;
        last = last;
        exponent = ee ∙ rw long refl;
      };
      digits_are = ed;
    }

-- ---- digits in three parts
pub parts_above : (w number places digit : ℕ) (a b c : List ℕ) → 0 < w → number < 10 ^ places → digit < 10 → a ≡ [] ++ whole_digits 10 false w → b ≡ a ++ last_digits 10 false places number → c ≡ b ++ (48 + digit) ∷ [] → c ≡ whole_digits 10 false (w * 10 ^ (places + 1) + (number * 10 + digit))
parts_above w number places digit a b c some fits small ea eb ec =
    let one : places + 1 ≡ suc places = omega arith in
    let below : number * 10 + digit < 10 ^ suc places = rw pow-suc (omega arith) in
    ec ∙ rw (eb, ea, one, whole_digits_split 10 false (suc places) w (number * 10 + digit) (omega arith) some below, last_digits_push 10 false places number digit small, glyph_is digit small) (append_assoc (whole_digits 10 false w) (last_digits 10 false places number) ((48 + digit) ∷ []))
  where
    glyph_is : (d : ℕ) → d < 10 → digit_glyph false d ≡ 48 + d
    glyph_is d l = grind arith

pub places_word : (k n : ℕ) → k ≤ 19 → n < 10 ^ k → n < 2 ^ 64
places_word k n l h = let more : 10 ^ k ≤ 10 ^ 19 = pow-le-pow_right (omega arith) l in omega arith

pub parts_below : (w number places digit : ℕ) (a c : List ℕ) → w ≤ 0 → 0 < number → digit < 10 → a ≡ [] ++ whole_digits 10 false number → c ≡ a ++ (48 + digit) ∷ [] → c ≡ whole_digits 10 false (w * 10 ^ (places + 1) + (number * 10 + digit))
parts_below w number places digit a c none some small ea ec =
    let zero_w : w ≡ 0 = omega arith in
    let n : w * 10 ^ (places + 1) + (number * 10 + digit) ≡ number * 10 + digit = rw zero_w (omega arith) in
    let lead : (number * 10 + digit) / 10 ≡ number = omega arith in
    let last : (number * 10 + digit) % 10 ≡ digit = omega arith in
    ec ∙ rw (ea, n, whole_digits_more 10 false (number * 10 + digit) (omega arith) (omega arith), lead, last, glyph_is digit small) refl
  where
    glyph_is : (d : ℕ) → d < 10 → digit_glyph false d ≡ 48 + d
    glyph_is d l = grind arith

pub parts_one : (w number places digit : ℕ) (c : List ℕ) → w ≤ 0 → number ≤ 0 → digit < 10 → c ≡ [] ++ (48 + digit) ∷ [] → c ≡ whole_digits 10 false (w * 10 ^ (places + 1) + (number * 10 + digit))
parts_one w number places digit c none nothing small ec =
    let zero_w : w ≡ 0 = omega arith in
    let n : w * 10 ^ (places + 1) + (number * 10 + digit) ≡ digit = rw zero_w (omega arith) in
    ec ∙ rw (n, whole_digit digit small) refl

-- ---- the body

pub exponent_body : (notation : Notation) (precision : Option ℕ) (c g zeros : ℕ) (figures digits tail : List ℕ) (e : ℤ) → HasFigureText precision c g figures zeros e → digits ++ replicate zeros zero_digit ≡ [] ++ pointed (figures ++ replicate zeros zero_digit) → tail ≡ exponent_text notation e → HasExponentBody notation precision c g digits zeros tail
exponent_body notation precision c g more figures digits tail e h ed et = record {
  body = pointed (figures ++ replicate more zero_digit) ++ exponent_text notation e;
  is_body = by_value c h;
  text = sym (append_assoc digits (replicate more zero_digit) tail) ∙ rw (ed, et) refl;
}
  where
    by_value : (c : ℕ) → HasFigureText precision c g figures more e → IsExponentBody notation precision c g (pointed (figures ++ replicate more zero_digit) ++ exponent_text notation e)
    by_value zero h = rw ((h.zero refl).0, (h.zero refl).1) refl
    by_value (suc c) h =
        let (m, are, text) = h.some (omega arith) in
        record { figures = m; exponent = e; are_figures = are; body_is = rw text refl }

-- ---- small facts of the parts
pub stripped_some : (m : ℕ) → (m % 10 ≡ 0 → ⊥) → 0 < m
stripped_some zero last = absurd (last (omega arith))
stripped_some (suc m) last = omega arith

pub stripped_word : (w m z : ℕ) → w < 2 ^ 64 → w ≡ m * 10 ^ z → m < 2 ^ 64
stripped_word w m z l e =
    let some : 0 < 10 ^ z = one-le-pow z 10 (omega arith) in
    let more : m * 1 ≤ m * 10 ^ z = mul-le-mul_left m some in
    omega arith

pub places_short : (len zeros places : ℕ) (digits : List ℕ) (e : ℤ) → e ≡ pos (len + zeros) -ℤ pos places → len ≡ length digits → e ≡ pos (length digits + zeros) -ℤ pos places
places_short len more places digits e h l = h ∙ rw l refl
