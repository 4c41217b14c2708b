-- For a numeral of n bytes, all scanned digits after the point are zeros except the last n + 1.
use Rattle.std.proofs.Common.{◌≡◌, ℕ, suc, ◌+◌, ◌-◌, ◌*◌, ◌^◌, ◌<◌, ◌≤◌, Bool, true, false, List, [], ◌∷◌, ◌++◌, length, take, drop, refl, sym, ap, ◌∙◌, subst, arith, ⊎_elim, append_assoc, length-append, length-drop, mul-le-mul_right, mul-le-mul_left, if◌then◌else◌}
use Rattle.std.specs.Prelude.{Option, Some, None, IfSome, option_to_list, ℤ, pos, negsuc, ◌-ℤ◌}
use Rattle.std.specs.Int.Digits.{AllBelowBase, number_from_digits}
use Rattle.std.specs.Str.Parse.{AllDigits, digits_value}
use Rattle.std.proofs.Math.Nat.{one-le-pow, pow-le-pow_right, pow-succ', pow-zero}
use Rattle.std.proofs.lemmas.Bool.{cases_lt}
use Rattle.std.proofs.lemmas.Int.Digits.{digits_value-lt}
use Rattle.std.proofs.lemmas.List.{take-append-drop}
use Rattle.std.proofs.lemmas.Nat.{pow-add}
use Rattle.fixed_numeral.proofs.Public.{below_split, number_append, pow-mul}
use Rattle.fixed_numeral.specs.Numeral.{Parts, Exponent, HasNumeral, base, exponent_number, exponent_text, fraction_text, fractional_digits, is_two_separator, mantissa}
use Rattle.fixed_numeral.specs.Place.{NoTrailingZero}
use Rattle.fixed_numeral.specs.Scanned.{IsScanned}
use Rattle.fixed_numeral.specs.Value.{Fraction, magnitude, scaled, scaled_by}
use Rattle.fixed_numeral.specs.declared.radix.Radix.{Radix}
use Rattle.fixed_numeral.specs.declared.radix.Radix.TheVariants.{Bin, Oct, Dec, Hex}
use Rattle.fixed_error.proofs.GapLemmas.{base_least}
use Rattle.fixed_error.proofs.RestLemmas.{cancel_eq}
use Rattle.fixed_error.proofs.SumLemmas.{one_digit, power_split}

-- ---- a number that does not end with a zero
no_multiple : (b k q x : ℕ) → 0 < x → x < b → k * b + x ≡ q * b → ⊥
no_multiple b k q x some less e = ⊎_elim
    (λ (h : k < q). let m : (k + 1) * b ≤ q * b = mul-le-mul_right b (omega (arith, h)) in absurd (omega (arith, m, e, less)))
    (λ (h : q ≤ k). let m : q * b ≤ k * b = mul-le-mul_right b h in absurd (omega (arith, m, e, some)))
    (cases_lt k q)

single : (xs : List ℕ) → length xs ≡ 1 → (x : ℕ) × (xs ≡ x ∷ [])
single [] e = absurd (omega (arith, e))
single (x ∷ []) e = (x, refl)
single (x ∷ y ∷ xs) e = absurd (omega (arith, e))

last_digit : (b : ℕ) (xs : List ℕ) (x : ℕ) → number_from_digits b (xs ++ x ∷ []) ≡ number_from_digits b xs * b + x
last_digit b xs x =
    let power : b ^ 1 ≡ b * b ^ 0 = pow-succ' b 0 in
    let one : b * b ^ 0 ≡ b * 1 = ap (λ t. b * t) (pow-zero b) in
    let b_is : b ^ 1 ≡ b = omega (arith, power, one) in
    number_append b xs (x ∷ []) ∙ (ap (λ t. number_from_digits b xs * t + number_from_digits b (x ∷ [])) b_is ∙ ap (λ d. number_from_digits b xs * b + d) (one_digit b x))

no_zero_last : (b : ℕ) (whole fraction : List ℕ) → AllBelowBase b fraction → NoTrailingZero fraction → 0 < length fraction → (q : ℕ) → number_from_digits b (whole ++ fraction) ≡ q * b → ⊥
no_zero_last b whole fraction all trailing some q e =
    let k : ℕ = length fraction - 1 in
    let prefix : List ℕ = take k fraction in
    let last = single (drop k fraction) (omega (arith, length-drop k fraction, some)) in
    let x : ℕ = last.0 in
    let split : fraction ≡ prefix ++ x ∷ [] = sym (take-append-drop k fraction) ∙ ap (λ l. prefix ++ l) last.1 in
    let below : x < b = (subst (AllBelowBase b) last.1 (below_split b fraction k all).1).0 in
    let number : number_from_digits b (whole ++ fraction) ≡ number_from_digits b (whole ++ prefix) * b + x = ap (λ l. number_from_digits b (whole ++ l)) split ∙ (ap (number_from_digits b) (sym (append_assoc whole prefix (x ∷ []))) ∙ last_digit b (whole ++ prefix) x) in
    ⊎_elim
    (λ (more : 0 < x). no_multiple b (number_from_digits b (whole ++ prefix)) q x more below (sym number ∙ e))
    (λ (none : x ≤ 0). let none_is : x ≡ 0 = omega (arith, none) in trailing prefix (split ∙ ap (λ d. prefix ++ d ∷ []) none_is))
    (cases_lt 0 x)

-- ---- numbers that are equal except for powers
few_by : (g u i j n m : ℕ) → 1 ≤ g → n * g ^ i ≡ m * g ^ j → ((q : ℕ) → n ≡ q * g ^ u → ⊥) → n ≤ m * g ^ u
few_by g u i j n m some e never = ⊎_elim
    (λ (less : j < i).
    let split : n * g ^ i ≡ n * (g ^ j * g ^ (i - j)) = ap (λ t. n * t) (power_split g j i (omega (arith, less))) in
    let p : 1 ≤ g ^ j = one-le-pow j g some in
    let c : n * g ^ (i - j) ≡ m = cancel_eq (n * g ^ (i - j)) m (g ^ j) (omega (arith, p)) (omega (arith, split, e)) in
    let a : n * 1 ≤ n * g ^ (i - j) = mul-le-mul_left n (one-le-pow (i - j) g some) in
    let b : m * 1 ≤ m * g ^ u = mul-le-mul_left m (one-le-pow u g some) in
    omega (arith, a, b, c))
    (λ (more : i ≤ j).
    let split : m * g ^ j ≡ m * (g ^ i * g ^ (j - i)) = ap (λ t. m * t) (power_split g i j more) in
    let p : 1 ≤ g ^ i = one-le-pow i g some in
    let c : n ≡ m * g ^ (j - i) = cancel_eq n (m * g ^ (j - i)) (g ^ i) (omega (arith, p)) (omega (arith, split, e)) in
    ⊎_elim
    (λ (short : j - i < u). let b : m * g ^ (j - i) ≤ m * g ^ u = mul-le-mul_left m (pow-le-pow_right some (omega (arith, short))) in omega (arith, b, c))
    (λ (long : u ≤ j - i).
    let parts : m * g ^ (j - i) ≡ m * (g ^ u * g ^ (j - i - u)) = ap (λ t. m * t) (power_split g u (j - i) long) in
    absurd (never (m * g ^ (j - i - u)) (omega (arith, c, parts))))
    (cases_lt (j - i) u))
    (cases_lt j i)

-- ---- a magnitude as a product of powers
-- num / den is m times a power of h, over powers of b and h
record HasPowers (b h m num den : ℕ) : Type 0 where
  up : ℕ
  places : ℕ
  down : ℕ
  num_is : num ≡ m * h ^ up
  den_is : den ≡ b ^ places * h ^ down

-- the same, and h is a power of g
record IsScale (g b m : ℕ) (f : Fraction) : Type 0 where
  h : ℕ
  v : ℕ
  h_is : h ≡ g ^ v
  powers : HasPowers b h m f.num f.den

scaled_powers : (b h m places d : ℕ) (x : ℤ) → d ≡ b ^ places → HasPowers b h m (scaled m d h x).num (scaled m d h x).den
scaled_powers b h m places d (pos x) e =
    let one : b ^ places * h ^ 0 ≡ b ^ places * 1 = ap (λ t. b ^ places * t) (pow-zero h) in
    record { up = x; places = places; down = 0; num_is = refl; den_is = omega (arith, one, e) }
scaled_powers b h m places d (negsuc x) e =
    let one : m * h ^ 0 ≡ m * 1 = ap (λ t. m * t) (pow-zero h) in
    record { up = 0; places = places; down = suc x; num_is = omega (arith, one); den_is = ap (λ t. t * h ^ suc x) e }

scale_two : (u m b s : ℕ) (two : Bool) (x y : ℤ) → b ≡ 2 ^ u → IsScale 2 b m (if two then scaled m (b ^ s) 2 x else scaled m 1 b y)
scale_two u m b s true x y e = record { h = 2; v = 1; h_is = omega arith; powers = scaled_powers b 2 m s (b ^ s) x refl }
scale_two u m b s false x y e = record { h = b; v = u; h_is = e; powers = scaled_powers b b m 0 1 y (sym (pow-zero b)) }

scale_of_two : (r : Radix) (u m s : ℕ) (x : Option Exponent) → base r ≡ 2 ^ u → IsScale 2 (base r) m (scaled_by r m s x)
scale_of_two r u m s None e = record { h = base r; v = u; h_is = e; powers = scaled_powers (base r) (base r) m 0 1 (pos 0 -ℤ pos s) (sym (pow-zero (base r))) }
scale_of_two r u m s (Some x) e = scale_two u m (base r) s (is_two_separator r x.separator) (exponent_number x) (exponent_number x -ℤ pos s) e

scale_of_ten : (m s : ℕ) (x : Option Exponent) → IsScale 10 10 m (scaled_by Dec m s x)
scale_of_ten m s None = record { h = 10; v = 1; h_is = omega arith; powers = scaled_powers 10 10 m 0 1 (pos 0 -ℤ pos s) (omega arith) }
scale_of_ten m s (Some x) = record { h = 10; v = 1; h_is = omega arith; powers = scaled_powers 10 10 m 0 1 (exponent_number x -ℤ pos s) (omega arith) }

-- all powers as powers of g
one_power : (g u k x : ℕ) → x ≡ g ^ u → x ^ k ≡ g ^ (u * k)
one_power g u k x e = ap (λ t. t ^ k) e ∙ pow-mul g u k

products : (n m a p q c d l r : ℕ) → n * a * (p * q) ≡ m * c * d → l ≡ a * (p * q) → r ≡ c * d → n * l ≡ m * r
products n m a p q c d l r e left right =
    let x : n * l ≡ n * (a * (p * q)) = ap (λ t. n * t) left in
    let y : m * r ≡ m * (c * d) = ap (λ t. m * t) right in
    omega (arith, e, x, y)

few_scaled : (g u b s x m n places : ℕ) (f : Fraction) → 1 ≤ g → b ≡ g ^ u → x ≡ g ^ s → IsScale g b m f → n * x * f.den ≡ f.num * b ^ places → ((q : ℕ) → n ≡ q * b → ⊥) → n ≤ m * b
few_scaled g u b s x m n places f some b_is x_is scale e never =
    let w = scale.powers in
    let p : b ^ w.places ≡ g ^ (u * w.places) = one_power g u w.places b b_is in
    let q : scale.h ^ w.down ≡ g ^ (scale.v * w.down) = one_power g scale.v w.down scale.h scale.h_is in
    let c : scale.h ^ w.up ≡ g ^ (scale.v * w.up) = one_power g scale.v w.up scale.h scale.h_is in
    let d : b ^ places ≡ g ^ (u * places) = one_power g u places b b_is in
    let i : ℕ = s + (u * w.places + scale.v * w.down) in
    let j : ℕ = scale.v * w.up + u * places in
    let left : g ^ i ≡ x * (b ^ w.places * scale.h ^ w.down) = pow-add g s (u * w.places + scale.v * w.down) ∙ (ap (λ t. g ^ s * t) (pow-add g (u * w.places) (scale.v * w.down)) ∙ (ap (λ t. t * (g ^ (u * w.places) * g ^ (scale.v * w.down))) (sym x_is) ∙ (ap (λ t. x * (t * g ^ (scale.v * w.down))) (sym p) ∙ ap (λ t. x * (b ^ w.places * t)) (sym q)))) in
    let right : g ^ j ≡ scale.h ^ w.up * b ^ places = pow-add g (scale.v * w.up) (u * places) ∙ (ap (λ t. t * g ^ (u * places)) (sym c) ∙ ap (λ t. scale.h ^ w.up * t) (sym d)) in
    let same : n * x * (b ^ w.places * scale.h ^ w.down) ≡ m * scale.h ^ w.up * b ^ places = ap (λ t. n * x * t) (sym w.den_is) ∙ (e ∙ ap (λ t. t * b ^ places) w.num_is) in
    let few : n ≤ m * g ^ u = few_by g u i j n m some (products n m x (b ^ w.places) (scale.h ^ w.down) (scale.h ^ w.up) (b ^ places) (g ^ i) (g ^ j) same left right) (λ k t. never k (t ∙ ap (λ v. k * v) (sym b_is))) in
    subst (λ t. n ≤ m * t) (sym b_is) few

-- ---- the digits of a scanned numeral
-- all digits spell at most the number of the mantissa with a zero appended
number_most : (r : Radix) (p : Parts) (negative : Bool) (whole fraction : List ℕ) (s : ℕ) → IsScanned r p negative whole fraction s → 0 < length fraction
    → number_from_digits (base r) (whole ++ fraction) ≤ digits_value (base r) (mantissa p) * base r
number_most Bin p negative whole fraction s x some = few_scaled 2 1 2 s (2 ^ s) (digits_value 2 (mantissa p)) (number_from_digits 2 (whole ++ fraction)) (length fraction) (magnitude Bin p) (omega arith) (omega arith) refl (scale_of_two Bin 1 (digits_value 2 (mantissa p)) (length (fractional_digits p.fraction)) p.exponent (omega arith)) x.value (no_zero_last 2 whole fraction x.fraction_digits x.trailing some)
number_most Oct p negative whole fraction s x some = few_scaled 2 3 8 s (2 ^ s) (digits_value 8 (mantissa p)) (number_from_digits 8 (whole ++ fraction)) (length fraction) (magnitude Oct p) (omega arith) (omega arith) refl (scale_of_two Oct 3 (digits_value 8 (mantissa p)) (length (fractional_digits p.fraction)) p.exponent (omega arith)) x.value (no_zero_last 8 whole fraction x.fraction_digits x.trailing some)
number_most Hex p negative whole fraction s x some = few_scaled 2 4 16 s (2 ^ s) (digits_value 16 (mantissa p)) (number_from_digits 16 (whole ++ fraction)) (length fraction) (magnitude Hex p) (omega arith) (omega arith) refl (scale_of_two Hex 4 (digits_value 16 (mantissa p)) (length (fractional_digits p.fraction)) p.exponent (omega arith)) x.value (no_zero_last 16 whole fraction x.fraction_digits x.trailing some)
number_most Dec p negative whole fraction s x some =
    let none : s ≡ 0 = omega (arith, x.small) in
    let one : 2 ^ s ≡ 10 ^ 0 = ap (λ k. 2 ^ k) none ∙ omega arith in
    few_scaled 10 1 10 0 (2 ^ s) (digits_value 10 (mantissa p)) (number_from_digits 10 (whole ++ fraction)) (length fraction) (magnitude Dec p) (omega arith) (omega arith) one (scale_of_ten (digits_value 10 (mantissa p)) (length (fractional_digits p.fraction)) p.exponent) x.value (no_zero_last 10 whole fraction x.fraction_digits x.trailing some)

all_append : (b : ℕ) (xs ys : List ℕ) → AllDigits b xs → AllDigits b ys → AllDigits b (xs ++ ys)
all_append b [] ys p q = q
all_append b (x ∷ xs) ys p q = (p.0, all_append b xs ys p.1 q)

all_fractional : (b : ℕ) (f : Option (List ℕ)) → IfSome f (AllDigits b) → AllDigits b (fractional_digits f)
all_fractional b None h = tt
all_fractional b (Some ds) h = h

fractional_within : (f : Option (List ℕ)) → length (fractional_digits f) ≤ length (fraction_text f)
fractional_within None = omega arith
fractional_within (Some ds) = omega arith

mantissa_within : (r : Radix) (text : List ℕ) (p : Parts) → HasNumeral r text p → length (mantissa p) ≤ length text
mantissa_within r text p n =
    let long = ap length n.beginning.text in
    let f : List ℕ = fraction_text p.fraction in
    let e : List ℕ = exponent_text p.exponent in
    let a = length-append (option_to_list p.sign) (p.whole ++ (f ++ e)) in
    let b = length-append p.whole (f ++ e) in
    let c = length-append f e in
    let d = length-append p.whole (fractional_digits p.fraction) in
    omega (arith, long, a, b, c, d, fractional_within p.fraction)

below_by : (b t l n m : ℕ) → 1 ≤ b → n ≤ m * b → m < b ^ t → t ≤ l → n < b ^ (l + 1)
below_by b t l n m some h less long =
    let more : (m + 1) * b ≤ b ^ t * b = mul-le-mul_right b (omega (arith, less)) in
    let power : b ^ t ≤ b ^ l = pow-le-pow_right some long in
    let wide : b ^ t * b ≤ b ^ l * b = mul-le-mul_right b power in
    let next : b ^ suc l ≡ b * b ^ l = pow-succ' b l in
    let same : b ^ (l + 1) ≡ b ^ suc l = ap (λ k. b ^ k) (omega arith) in
    omega (arith, h, more, wide, next, same, some)

pub few_digits : (r : Radix) (text : List ℕ) (p : Parts) (negative : Bool) (whole fraction : List ℕ) (s : ℕ) → HasNumeral r text p → IsScanned r p negative whole fraction s
    → number_from_digits (base r) fraction < base r ^ (length text + 1)
few_digits r text p negative whole [] s n x = let some : 1 ≤ base r ^ (length text + 1) = one-le-pow (length text + 1) (base r) (base_least r) in omega (arith, some)
few_digits r text p negative whole (y ∷ ys) s n x =
    let b : ℕ = base r in
    let all : AllDigits b (mantissa p) = all_append b p.whole (fractional_digits p.fraction) n.beginning.parts.whole (all_fractional b p.fraction n.beginning.parts.fraction) in
    let less : number_from_digits b (whole ++ y ∷ ys) < b ^ (length text + 1) = below_by b (length (mantissa p)) (length text) (number_from_digits b (whole ++ y ∷ ys)) (digits_value b (mantissa p)) (base_least r) (number_most r p negative whole (y ∷ ys) s x (omega arith)) (digits_value-lt b (mantissa p) all) (mantissa_within r text p n) in
    omega (arith, less, number_append b whole (y ∷ ys))
