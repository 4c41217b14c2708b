-- The number that the views spell is the numeral's magnitude.
use Rattle.std.proofs.Common.{◌≡◌, ℕ, zero, suc, ◌+◌, ◌*◌, ◌^◌, ◌<◌, ◌≤◌, Bool, true, false, cond, nat_lt, List, [], ◌∷◌, ◌++◌, map, length, Option, Some, None, ℤ, pos, negsuc, neg_ℤ, ◌-ℤ◌, refl, sym, ap, ◌∙◌, arith, lt-ltb, IfSome}
use Rattle.std.proofs.lemmas.List.{length-map, map-append}
use Rattle.std.proofs.lemmas.Int.{ints}
use Rattle.std.proofs.lemmas.Nat.{pow-add}
use Rattle.std.proofs.Math.Nat.{pow-zero}
use Rattle.std.proofs.lemmas.Int.Digits.{digits_value_is, all_below_base_from_digits}
use Rattle.std.specs.Int.Digits.{number_from_digits, AllBelowBase}
use Rattle.std.specs.Str.Parse.{digits_value, AllDigits}
use Rattle.std.specs.Char.{digit_value}
use Rattle.fixed_numeral.specs.declared.radix.Radix.{Radix}
use Rattle.fixed_numeral.specs.declared.radix.Radix.TheVariants.{Bin, Dec}
use Rattle.fixed_numeral.specs.Numeral.{Parts, Exponent, IsPartsOf, base, is_minus, is_two_separator, mantissa, fractional_digits}
use Rattle.fixed_numeral.specs.Value.{Fraction, magnitude, scaled, scaled_by}
use Rattle.fixed_numeral.specs.Spelled.{spelled, IsSameNumber}
use Rattle.fixed_numeral.proofs.SpelledLemmas.{pow-mul}
use Rattle.fixed_numeral.specs.Digits.{digits_in}
use Rattle.fixed_numeral.specs.Inner.MovedPoint.{moved}
use Rattle.fixed_numeral.specs.Scanned.{exponent_unit}
use Rattle.fixed_numeral.specs.Inner.Shift.{unit_of, IsShift, AgreesWithExponent}

-- ---- bytes that are all digits
pub digits_in_all : (b : ℕ) (ds : List ℕ) → b ≤ 16 → AllDigits b ds → digits_in ds ≡ map digit_value ds
unfolding digits_in
digits_in_all b [] l h = refl
digits_in_all b (d ∷ ds) l h =
    let t : nat_lt (digit_value d) 16 ≡ true = lt-ltb _ _ (omega (arith, h.0)) in
    rw t (ap (λ xs. digit_value d ∷ xs) (digits_in_all b ds l h.1))

-- ---- the exponent moves the point: the views spell n, the mantissa is m, f is the base's power after the point
abbrev pub Moves : ℕ → ℕ → ℕ → ℕ → ℕ → ℕ → ℕ → Type 0
Moves b n m f s up down = (u d : ℕ) → u + (s + down) ≡ d + up → n * 2 ^ 0 * b ^ d ≡ m * b ^ u * f

one : 2 ^ 0 ≡ 1
one = omega arith

radix_at : (b n m f s up down : ℕ) (z : ℤ) → pos up -ℤ pos (s + down) ≡ z → Moves b n m f s up down → n * 2 ^ 0 * (scaled m 1 b z).den ≡ (scaled m 1 b z).num * f
radix_at b n m f s up down (pos u) e v =
    rw (pow-zero b) at (v u 0 (omega (arith, ints)))
radix_at b n m f s up down (negsuc d) e v =
    let h = v 0 (suc d) (omega (arith, ints)) in
    let z = pow-zero b in
    omega (arith, rw z at h)

two_forward : (b j n m f s up down bits mag : ℕ) → b ≡ 2 ^ j → up * j + bits ≡ mag → down ≡ 0 → Moves b n m f s up down → n * 2 ^ bits * b ^ s ≡ m * 2 ^ mag * f
two_forward b j n m f s up down bits mag eb e z v =
    let p : b ^ up ≡ 2 ^ (j * up) = ap (λ i. i ^ up) eb ∙ pow-mul 2 j up in
    let h' : n * b ^ s * 2 ^ bits ≡ m * b ^ up * f * 2 ^ bits = omega (arith, ap (λ x. x * 2 ^ bits) (v up s (omega arith))) in
    rw (ap (λ i. 2 ^ i) (let k : mag ≡ j * up + bits = omega arith in k) ∙ pow-add 2 (j * up) bits) (omega (arith, rw p at h'))

two_backward : (b j n m f s up down bits mag : ℕ) → b ≡ 2 ^ j → down * j ≡ mag + bits → up ≡ 0 → Moves b n m f s up down → n * 2 ^ bits * (b ^ s * 2 ^ mag) ≡ m * f
two_backward b j n m f s up down bits mag eb e z v =
    let h = v 0 (s + down) (omega arith) in
    let p : b ^ down ≡ 2 ^ (j * down) = ap (λ i. i ^ down) eb ∙ pow-mul 2 j down in
    let q : 2 ^ (j * down) ≡ 2 ^ mag * 2 ^ bits = ap (λ i. 2 ^ i) (let k : j * down ≡ mag + bits = omega arith in k) ∙ pow-add 2 mag bits in
    let w : b ^ (s + down) ≡ b ^ s * (2 ^ mag * 2 ^ bits) = pow-add b s down ∙ ap (λ x. b ^ s * x) (p ∙ q) in
    omega (arith, (rw (pow-zero b) at (rw w at h)))

-- ---- by the exponent
two_base : (r : Radix) (b : ℕ) → is_two_separator r b ≡ true → base r ≡ 2 ^ exponent_unit r
two_base Dec b h = absurd (cc)
two_base x b h = refl

-- the scaled number, by the kind of separator
abbrev scaled_in : Bool → ℕ → ℕ → ℕ → ℤ → Fraction
scaled_in two b m s x = cond two (scaled m (b ^ s) 2 x) (scaled m 1 b (x -ℤ pos s))

abbrev signed_by : Bool → ℕ → ℤ
signed_by minus mag = cond minus (neg_ℤ (pos mag)) (pos mag)

same_scaled : (two minus : Bool) (j b n m f s up down bits mag : ℕ) → (two ≡ true → b ≡ 2 ^ j) → IsShift minus (cond two j 1) mag up down bits → bits < cond two j 1 → Moves b n m f s up down → n * 2 ^ bits * (scaled_in two b m s (signed_by minus mag)).den ≡ (scaled_in two b m s (signed_by minus mag)).num * f
same_scaled true false j b n m f s up down bits mag eb k l v = two_forward b j n m f s up down bits mag (eb refl) k.0 k.1 v
same_scaled true true j b n m f s up down bits zero eb k l v =
    omega (arith, (two_backward b j n m f s up down bits 0 (eb refl) k.0 k.1 v))
same_scaled true true j b n m f s up down bits (suc mag) eb k l v = two_backward b j n m f s up down bits (suc mag) (eb refl) k.0 k.1 v
same_scaled false false j b n m f s up down zero mag eb k l v = radix_at b n m f s up down (pos mag -ℤ pos s) (omega (arith, ints, k.0, k.1)) v
same_scaled false true j b n m f s up down zero mag eb k l v = radix_at b n m f s up down (neg_ℤ (pos mag) -ℤ pos s) (omega (arith, ints, k.0, k.1)) v
same_scaled false x j b n m f s up down (suc bits) mag eb k l v = absurd (omega arith)

by_exponent : (r : Radix) (two minus : Bool) (n m f s up down bits mag : ℕ) (x : Option Exponent) → AgreesWithExponent r two minus mag x → IsShift minus (unit_of r two) mag up down bits → bits < unit_of r two → Moves (base r) n m f s up down → n * 2 ^ bits * (scaled_by r m s x).den ≡ (scaled_by r m s x).num * f
by_exponent r two minus n m f s up down bits mag None a k l v =
    let k' : IsShift false 1 0 up down bits = rw (a.0, a.1, a.2) at k in
    same_scaled false false 1 (base r) n m f s up down bits 0 (λ e. absurd (cc)) k' (rw a.0 at l) v
by_exponent r two minus n m f s up down bits mag (Some e) a k l v =
    let k' : IsShift (is_minus e.sign) (unit_of r (is_two_separator r e.separator)) (digits_value 10 e.digits) up down bits = rw (a.0, a.1, a.2) at k in
    let l' : bits < unit_of r (is_two_separator r e.separator) = rw a.0 at l in
    same_scaled (is_two_separator r e.separator) (is_minus e.sign) (exponent_unit r) (base r) n m f s up down bits (digits_value 10 e.digits) (two_base r e.separator) k' l' v

pub base_least : (r : Radix) → 2 ≤ base r
base_least Bin = omega arith
base_least r = omega arith

pub base_small : (r : Radix) → base r ≤ 16
base_small Bin = omega arith
base_small r = omega arith

pub after_digits : (b : ℕ) (o : Option (List ℕ)) → IfSome o (AllDigits b) → AllDigits b (fractional_digits o)
after_digits b None h = tt
after_digits b (Some ds) h = h

after_length : (r : Radix) (p : Parts) (f : List ℕ) → IsPartsOf r p → f ≡ digits_in (fractional_digits p.fraction) → length f ≡ length (fractional_digits p.fraction)
after_length r p f h ef = ap length (ef ∙ digits_in_all (base r) (fractional_digits p.fraction) (base_small r) (after_digits (base r) p.fraction h.fraction)) ∙ length-map (fractional_digits p.fraction) digit_value

pub mantissa_value : (r : Radix) (p : Parts) (w f : List ℕ) → IsPartsOf r p → w ≡ digits_in p.whole → f ≡ digits_in (fractional_digits p.fraction) → number_from_digits (base r) (w ++ f) ≡ digits_value (base r) (mantissa p)
mantissa_value r p w f h ew ef =
    let a = ew ∙ digits_in_all (base r) p.whole (base_small r) h.whole in
    let b = ef ∙ digits_in_all (base r) (fractional_digits p.fraction) (base_small r) (after_digits (base r) p.fraction h.fraction) in
    rw (a, b) (ap (number_from_digits (base r)) (sym (map-append digit_value p.whole (fractional_digits p.fraction))) ∙ sym (digits_value_is (base r) (mantissa p)))

pub same_magnitude : (r : Radix) (p : Parts) (two minus : Bool) (w f W F : List ℕ) (up down bits mag : ℕ) → IsPartsOf r p → w ≡ digits_in p.whole → f ≡ digits_in (fractional_digits p.fraction) → AgreesWithExponent r two minus mag p.exponent → IsShift minus (unit_of r two) mag up down bits → bits < unit_of r two → ((b u d : ℕ) → u + (length f + down) ≡ d + up → IsSameNumber (spelled b W F 0) (moved b w f u d)) → IsSameNumber (spelled (base r) W F bits) (magnitude r p)
same_magnitude r p two minus w f W F up down bits mag h ew ef a k l v =
    let value = mantissa_value r p w f h ew ef in
    by_exponent r two minus (number_from_digits (base r) (W ++ F)) (digits_value (base r) (mantissa p)) (base r ^ length F) (length (fractional_digits p.fraction)) up down bits mag p.exponent a k l
    (λ u d e. let e' : u + (length f + down) ≡ d + up = rw (after_length r p f h ef) e in rw value at (v (base r) u d e'))

pub scanned_digits : (r : Radix) (p : Parts) (w f : List ℕ) → IsPartsOf r p → w ≡ digits_in p.whole → f ≡ digits_in (fractional_digits p.fraction) → AllBelowBase (base r) w × AllBelowBase (base r) f
scanned_digits r p w f h ew ef =
    let bh = after_digits (base r) p.fraction h.fraction in (
      rw (ew, digits_in_all (base r) p.whole (base_small r) h.whole) (all_below_base_from_digits (base r) p.whole h.whole),
      rw (ef, digits_in_all (base r) (fractional_digits p.fraction) (base_small r) bh) (all_below_base_from_digits (base r) (fractional_digits p.fraction) bh),
    )

pub base_pos : (r : Radix) → 0 < base r
base_pos r = omega (arith, base_least r)

pub unit_small : (r : Radix) (two : Bool) (bits : ℕ) → bits < unit_of r two → bits < exponent_unit r
unit_small x true bits l = l
unit_small Bin false bits l = omega arith
unit_small r false bits l = omega arith

pub unit_pos : (r : Radix) (two : Bool) → 0 < unit_of r two
unit_pos Bin true = omega arith
unit_pos r true = omega arith
unit_pos r false = omega arith

pub whole_count : (r : Radix) (p : Parts) → IsPartsOf r p → length (digits_in p.whole) ≡ length p.whole
whole_count r p h = ap length (digits_in_all (base r) p.whole (base_small r) h.whole) ∙ length-map p.whole digit_value

pub after_count : (r : Radix) (p : Parts) → IsPartsOf r p → length (digits_in (fractional_digits p.fraction)) ≡ length (fractional_digits p.fraction)
after_count r p h = after_length r p (digits_in (fractional_digits p.fraction)) h refl
