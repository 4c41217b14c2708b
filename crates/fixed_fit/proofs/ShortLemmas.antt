-- Short decimals: which are below zero, and which surely fit.
use Rattle.std.proofs.Common.{◌≡◌, ℕ, ◌+◌, ◌-◌, ◌*◌, ◌/◌, ◌%◌, ◌^◌, ◌<◌, ◌≤◌, ◌↔◌, Bool, true, false, IsTrue, refl, sym, ap, ◌∙◌, subst, arith, ⊎_elim, mul-le-mul_right, div-add-mod', ℤ, pos, negsuc, ◌-ℤ◌, zero, suc, List}
use Rattle.std.specs.Prelude.{Option, Some, None, min}
use Rattle.std.proofs.Math.Nat.{one-le-pow, pow-le-pow_right}
use Rattle.std.proofs.lemmas.Nat.{pow-add}
use Rattle.std.proofs.lemmas.Bool.{cases_lt}
use Rattle.std.proofs.lemmas.Int.{ints}
use Rattle.fixed_bits.specs.Nearest.{IsNearest}
use Rattle.fixed_bits.specs.Numbers.{with_sign}
use Rattle.fixed_bits.specs.Ranges.{IsInRange}
use Rattle.fixed_bits.specs.declared.mode.ReadMode.TheVariants.{NearestEven}
use Rattle.fixed_numeral.specs.Numeral.{Exponent, HasNumeral, IsNumeral, Parts, is_minus}
use Rattle.fixed_numeral.specs.PartNumbers.{IsShortNumeral, is_power_of_two, placed_magnitude}
use Rattle.fixed_numeral.specs.Value.{Fraction, magnitude, scaled}
use Rattle.fixed_numeral.specs.declared.radix.Radix.{Radix}
use Rattle.fixed_numeral.specs.declared.radix.Radix.TheVariants.{Dec}
use Rattle.fixed_numeral.specs.declared.short.ShortNumeral.{ShortNumeral}
use Rattle.fixed_error.specs.Short.{IsShortRead}
use Rattle.fixed_numeral.proofs.Public.{magnitude_pos}
use Rattle.fixed_read.proofs.Public.{read_number_is_the_one}
use Rattle.fixed_fit.specs.Fitting.{Fits, IsBelowZero}
use Rattle.fixed_fit.specs.Inner.Lengths.{AreLowered, IsFlatDecimal, IsRoomOf, IsSurelyLeft, magnitude_bits}
use Rattle.fixed_fit.specs.declared.lengths.Lengths.{Lengths}
use Rattle.fixed_fit.specs.declared.short.FlatDecimal.{FlatDecimal}
use Rattle.fixed_fit.proofs.FittingLemmas.{nearest_grows, not_lowered}

-- ---- below zero
not_none : (m : ℕ) (z : ℤ) → (0 < m) ↔ (0 < (scaled m 1 10 z).num)
not_none m (pos x) = (λ h. let p : 1 ≤ 10 ^ x = one-le-pow x 10 (omega arith) in let t : 1 * 10 ^ x ≤ m * 10 ^ x = mul-le-mul_right (10 ^ x) (omega (arith, h)) in omega (arith, p, t), λ h. ⊎_elim (λ (some : 0 < m). some) (λ (none : m ≤ 0). let is : m ≡ 0 = omega (arith, none) in let t : m * 10 ^ x ≡ 0 * 10 ^ x = ap (λ k. k * 10 ^ x) is in absurd (omega (arith, t, h))) (cases_lt 0 m))
not_none m (negsuc x) = (λ h. h, λ h. h)

never_two : (x : Option Exponent) → is_power_of_two Dec x ≡ false
never_two None = refl
never_two (Some x) = refl

digits_some : (whole fraction places : ℕ) → (0 < whole + fraction) ↔ (0 < whole * 10 ^ places + fraction)
digits_some whole fraction places =
    let p : 1 ≤ 10 ^ places = one-le-pow places 10 (omega arith) in (
      λ h. ⊎_elim (λ (some : 0 < whole). let t : 1 * 10 ^ places ≤ whole * 10 ^ places = mul-le-mul_right (10 ^ places) (omega (arith, some)) in omega (arith, p, t)) (λ (none : whole ≤ 0). omega (arith, h, none)) (cases_lt 0 whole),
      λ h. ⊎_elim (λ (some : 0 < whole). omega (arith, some)) (λ (none : whole ≤ 0). let is : whole ≡ 0 = omega (arith, none) in let t : whole * 10 ^ places ≡ 0 * 10 ^ places = ap (λ k. k * 10 ^ places) is in omega (arith, t, h)) (cases_lt 0 whole),
    )

-- the magnitude of a short decimal, from its digits
magnitude_is : (p : Parts) (negative : Bool) (whole fraction places : ℕ) (exponent : ℤ) (two : Bool) → IsShortNumeral Dec p negative whole fraction places exponent two → magnitude Dec p ≡ scaled (whole * 10 ^ places + fraction) 1 10 (exponent -ℤ pos places)
magnitude_is p negative whole fraction places exponent two h = h.value ∙ ap (placed_magnitude Dec (whole * 10 ^ places + fraction) places exponent) (h.separator ∙ never_two p.exponent)

short_below : (p : Parts) (negative : Bool) (whole fraction places : ℕ) (exponent : ℤ) (two b : Bool) → IsShortNumeral Dec p negative whole fraction places exponent two → (IsTrue b ↔ ((negative ≡ true) × (0 < whole + fraction))) → IsTrue b ↔ IsBelowZero Dec p
short_below p negative whole fraction places exponent two b h below =
    let digits : ℕ = whole * 10 ^ places + fraction in
    let same : magnitude Dec p ≡ scaled digits 1 10 (exponent -ℤ pos places) = magnitude_is p negative whole fraction places exponent two h in
    let P : Fraction → Type 0 = λ f. 0 < f.num in
    let some = digits_some whole fraction places in
    let num = not_none digits (exponent -ℤ pos places) in (
      λ t. let x = below.0 t in record { minus = sym h.sign ∙ x.0; some = subst P (sym same) (num.0 (some.0 x.1)) },
      λ x. below.1 (h.sign ∙ x.minus, some.1 (num.1 (subst P same x.some))),
    )

-- ---- in range
-- a decimal at least an ulp below the end
below_end : (digits up b places : ℕ) → digits * up + 10 ^ places ≤ b * 10 ^ places → (scaled digits 1 10 (pos 0 -ℤ pos places)).num * up + (scaled digits 1 10 (pos 0 -ℤ pos places)).den ≤ b * (scaled digits 1 10 (pos 0 -ℤ pos places)).den
below_end digits up b zero less = omega (arith, less)
below_end digits up b (suc k) less =
    let P : ℤ → Type 0 = λ z. (scaled digits 1 10 z).num * up + (scaled digits 1 10 z).den ≤ b * (scaled digits 1 10 z).den in
    let is : pos 0 -ℤ pos (suc k) ≡ negsuc k = omega (arith, ints) in
    let down : digits * up + 1 * 10 ^ suc k ≤ b * (1 * 10 ^ suc k) = omega (arith, less) in
    subst P (sym is) down

-- a number at least an ulp below b ulps is rounded to fewer than b
nearest_below : (num den up b q : ℕ) → 0 < den → num * up + den ≤ b * den → IsNearest (num * up) den q → q < b
nearest_below num den up zero q some less h = absurd (omega (arith, less, some))
nearest_below num den up (suc top) q some less h =
    let whole : IsNearest (top * den) den top = record { near = omega arith; tie = λ e. absurd (omega (arith, e, some)) } in
    let most : q ≤ top = nearest_grows (num * up) (top * den) den q top some (omega (arith, less)) h whole in
    omega (arith, most)

below_room : (s : Bool) (n : ℕ) (minus : Bool) (ulps : ℕ) → (minus ≡ true → s ≡ true) → ulps < 2 ^ magnitude_bits s n → IsInRange s n (with_sign minus ulps)
below_room true n true ulps sign less = record { low = omega (arith, ints, less); high = omega (arith, ints, less) }
below_room true n false ulps sign less = record { low = omega (arith, ints, less); high = omega (arith, ints, less) }
below_room false n false ulps sign less = record { low = omega (arith, ints, less); high = omega (arith, ints, less) }
below_room false n true ulps sign less = let no : false ≡ true = sign refl in cc

surely_fits : (s : Bool) (n f : ℕ) (line : List ℕ) (p : Parts) (negative : Bool) (whole fraction places : ℕ) (exponent : ℤ) (two : Bool) → HasNumeral Dec line p → IsShortNumeral Dec p negative whole fraction places exponent two
    → exponent ≡ pos 0 → (negative ≡ true → s ≡ true) → (whole * 10 ^ places + fraction) * 2 ^ f + 10 ^ places ≤ 2 ^ magnitude_bits s n * 10 ^ places → Fits Dec s n f line
surely_fits s n f line p negative whole fraction places exponent two numeral h none sign room =
    let v = read_number_is_the_one NearestEven Dec p f in
    let digits : ℕ = whole * 10 ^ places + fraction in
    let end : ℕ = 2 ^ magnitude_bits s n in
    let same : magnitude Dec p ≡ scaled digits 1 10 (pos 0 -ℤ pos places) = magnitude_is p negative whole fraction places exponent two h ∙ ap (λ e. scaled digits 1 10 (e -ℤ pos places)) none in
    let P : Fraction → Type 0 = λ m. m.num * 2 ^ f + m.den ≤ end * m.den in
    let below : (magnitude Dec p).num * 2 ^ f + (magnitude Dec p).den ≤ end * (magnitude Dec p).den = subst P (sym same) (below_end digits (2 ^ f) end places room) in
    let few : v.1.ulps < end = nearest_below (magnitude Dec p).num (magnitude Dec p).den (2 ^ f) end v.1.ulps (magnitude_pos Dec p) below v.1.rounded in
    let Q : ℤ → Type 0 = λ z. IsInRange s n z in
    record {
      parts = p;
      has = numeral;
      number = v.0;
      read = v.1;
      in_range = subst Q (sym v.1.value) (below_room s n (is_minus p.sign) v.1.ulps (λ m. sign (h.sign ∙ m)) few);
    }

-- ---- room in parts of 10^-18
parts_fit : (digits parts k t up b one : ℕ) → 0 < one → digits * one ≤ parts * t → parts ≤ k → k * up + one ≤ b * one → digits * up + t ≤ b * t
parts_fit digits parts k t up b one some is less room =
    let m : (k * up + one) * t ≤ b * one * t = mul-le-mul_right t room in
    let n : digits * one * up ≤ parts * t * up = mul-le-mul_right up is in
    let o : parts * (t * up) ≤ k * (t * up) = mul-le-mul_right (t * up) less in
    ⊎_elim
    (λ (over : b * t < digits * up + t). let p : (b * t + 1) * one ≤ (digits * up + t) * one = mul-le-mul_right one (omega (arith, over)) in absurd (omega (arith, m, n, o, p, some)))
    (λ (fits : digits * up + t ≤ b * t). fits)
    (cases_lt (b * t) (digits * up + t))

pub surely_left : (l : Lengths) (d : FlatDecimal) (k : ℕ) → ((f : ℕ) → f + 1 ≡ l.count → d.decimal.negative ≡ true → l.kind.signed ≡ true) → IsFlatDecimal d → d.parts ≤ k → IsRoomOf k l → IsSurelyLeft l d.decimal
surely_left l d k sign flat less room =
    let n = d.decimal in
    record {
      sign = sign;
      room = λ f last. parts_fit (n.whole * 10 ^ n.places + n.fraction) d.parts k (10 ^ n.places) (2 ^ f) (2 ^ magnitude_bits l.kind.signed l.kind.width) (10 ^ 18) (omega arith) flat.parts less (room f last);
    }

pub less_room : (j k : ℕ) (l : Lengths) → j ≤ k → IsRoomOf k l → IsRoomOf j l
less_room j k l order room f last =
    let h = room f last in
    let m : j * 2 ^ f ≤ k * 2 ^ f = mul-le-mul_right (2 ^ f) order in
    omega (arith, h, m)

pub fraction_fits : (fraction places : ℕ) → places ≤ 18 → fraction < 10 ^ places → (fraction * 10 ^ (18 - places) * 10 ^ places ≡ fraction * 10 ^ 18) × (fraction * 10 ^ (18 - places) < 10 ^ 18)
fraction_fits fraction places few below =
    let t : ℕ = 10 ^ places in
    let up : ℕ = 10 ^ (18 - places) in
    let split : 18 ≡ 18 - places + places = omega (arith, few) in
    let all : 10 ^ 18 ≡ up * t = ap (λ (n : ℕ). 10 ^ n) split ∙ pow-add 10 (18 - places) places in
    let some : 1 ≤ up = one-le-pow (18 - places) 10 (omega arith) in
    let m : (fraction + 1) * up ≤ t * up = mul-le-mul_right up (omega (arith, below)) in
    let same : fraction * up * t ≡ fraction * (up * t) = omega arith in
    (same ∙ ap (λ (n : ℕ). fraction * n) (sym all), omega (arith, m, some, all))

-- ---- a whole number of ulps
-- for m = min f 18, an ulp of 2^-m is 5 ^ 18 * 2 ^ (18 - m) parts of 10^-18
pub ulp_by : (f m : ℕ) → m ≡ min f 18 → 3814697265625 * 2 ^ (18 - m) * 2 ^ f ≡ 2 ^ (f - m) * 10 ^ 18
ulp_by f m is =
    let places : 18 - m + f ≡ 18 + (f - m) = omega (arith, is) in
    let power : 2 ^ (18 - m) * 2 ^ f ≡ 2 ^ 18 * 2 ^ (f - m) = sym (pow-add 2 (18 - m) f) ∙ (ap (λ (n : ℕ). 2 ^ n) places ∙ pow-add 2 18 (f - m)) in
    let scaled : 3814697265625 * (2 ^ (18 - m) * 2 ^ f) ≡ 3814697265625 * (2 ^ 18 * 2 ^ (f - m)) = ap (λ (n : ℕ). 3814697265625 * n) power in
    omega (arith, scaled)

pub ulp_fits : (m : ℕ) → 2 ^ (18 - m) ≤ 2 ^ 18
ulp_fits m = let fewer : 18 - m ≤ 18 = omega arith in pow-le-pow_right (omega arith) fewer

pub whole_found : (word ulp q fraction t up count : ℕ) → word ≡ q * ulp → word * t ≡ fraction * 10 ^ 18 → ulp * up ≡ count * 10 ^ 18 → fraction * up ≡ q * count * t
whole_found word ulp q fraction t up count is same ulps =
    let a : word * t * up ≡ fraction * 10 ^ 18 * up = ap (λ (n : ℕ). n * up) same in
    let b : word * t * up ≡ q * ulp * t * up = ap (λ (n : ℕ). n * t * up) is in
    let d : q * t * (ulp * up) ≡ q * t * (count * 10 ^ 18) = ap (λ (n : ℕ). q * t * n) ulps in
    omega (arith, a, b, d)

pub room_by : (end bits count f one : ℕ) → count ≡ f → end ≡ 2 ^ bits → (end - 1) * one / 2 ^ count * 2 ^ f + one ≤ 2 ^ bits * one
room_by end bits count f one ulps is =
    let up : ℕ = 2 ^ count in
    let parts : ℕ = (end - 1) * one in
    let some : 1 ≤ 2 ^ bits = one-le-pow bits 2 (omega arith) in
    let same : parts / up * 2 ^ f ≡ parts / up * up = ap (λ (n : ℕ). parts / up * 2 ^ n) (sym ulps) in
    let split : parts / up * up + parts % up ≡ parts = div-add-mod' parts up in
    let all : (end - 1 + 1) * one ≡ 2 ^ bits * one = ap (λ (n : ℕ). n * one) (omega (arith, is, some)) in
    omega (arith, same, split, all)

-- ---- the lengths after a short decimal
pub left_as_they_were : (r : Radix) (line : List ℕ) (place : ℕ) (l : Lengths) (n : ShortNumeral) → IsShortRead r line n → n.exponent ≡ pos 0 → IsSurelyLeft l n → AreLowered r line place l l
left_as_they_were r line place l n read none h =
    let numeral = read.numeral in
    subst (λ (x : Radix). AreLowered x line place l l) (sym read.decimal)
    (not_lowered Dec line place l l.count refl (λ f last. surely_fits l.kind.signed l.kind.width f line numeral.0 n.negative n.whole n.fraction n.places n.exponent n.scales_by_two numeral.1 (read.parts numeral.0 numeral.1) none (h.sign f last) (h.room f last)))

pub read_below : (r : Radix) (line : List ℕ) (n : ShortNumeral) (b : Bool) → IsShortRead r line n → (IsTrue b ↔ ((n.negative ≡ true) × (0 < n.whole + n.fraction))) → (p : Parts) → HasNumeral r line p → IsTrue b ↔ IsBelowZero r p
read_below r line n b read below =
    subst (λ (x : Radix). (p : Parts) → HasNumeral x line p → IsTrue b ↔ IsBelowZero x p) (sym read.decimal)
    (λ p has. short_below p n.negative n.whole n.fraction n.places n.exponent n.scales_by_two b (read.parts p has) below)

-- a short decimal whose fraction is a whole number of ulps is a whole number of ulps
whole_by : (w x t u k : ℕ) → x * u ≡ k * t → (w * t + x) * u ≡ (w * u + k) * (1 * t)
whole_by w x t u k e = omega (arith, e)

whole_scaled : (whole fraction places f k : ℕ) → fraction * 2 ^ f ≡ k * 10 ^ places → (scaled (whole * 10 ^ places + fraction) 1 10 (pos 0 -ℤ pos places)).num * 2 ^ f ≡ (whole * 2 ^ f + k) * (scaled (whole * 10 ^ places + fraction) 1 10 (pos 0 -ℤ pos places)).den
whole_scaled whole fraction zero f k e = omega (arith, e)
whole_scaled whole fraction (suc j) f k e =
    let P : ℤ → Type 0 = λ z. (scaled (whole * 10 ^ suc j + fraction) 1 10 z).num * 2 ^ f ≡ (whole * 2 ^ f + k) * (scaled (whole * 10 ^ suc j + fraction) 1 10 z).den in
    let is : pos 0 -ℤ pos (suc j) ≡ negsuc j = omega (arith, ints) in
    subst P (sym is) (whole_by whole fraction (10 ^ suc j) (2 ^ f) k e)

pub whole_magnitude : (r : Radix) (line : List ℕ) (n : ShortNumeral) (p : Parts) (f k : ℕ) → HasNumeral r line p → IsShortRead r line n → n.exponent ≡ pos 0 → n.fraction * 2 ^ f ≡ k * 10 ^ n.places → (magnitude r p).num * 2 ^ f ≡ (n.whole * 2 ^ f + k) * (magnitude r p).den
whole_magnitude r line n p f k has read none whole =
    let G : Radix → Type 0 = λ x. HasNumeral x line p → (magnitude x p).num * 2 ^ f ≡ (n.whole * 2 ^ f + k) * (magnitude x p).den in
    let here : G Dec = λ numeral.
    let same : magnitude Dec p ≡ scaled (n.whole * 10 ^ n.places + n.fraction) 1 10 (pos 0 -ℤ pos n.places) = magnitude_is p n.negative n.whole n.fraction n.places n.exponent n.scales_by_two (read.parts p numeral) ∙ ap (λ e. scaled (n.whole * 10 ^ n.places + n.fraction) 1 10 (e -ℤ pos n.places)) none in
    let P : Fraction → Type 0 = λ m. m.num * 2 ^ f ≡ (n.whole * 2 ^ f + k) * m.den in
    subst P (sym same) (whole_scaled n.whole n.fraction n.places f k whole) in
    subst G (sym read.decimal) here has

pub read_numeral : (r : Radix) (line : List ℕ) (n : ShortNumeral) → IsShortRead r line n → IsNumeral r line
read_numeral r line n read = subst (λ (x : Radix). IsNumeral x line) (sym read.decimal) read.numeral
