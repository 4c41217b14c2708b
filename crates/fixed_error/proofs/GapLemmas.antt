-- The gap between a numeral and its rounded number, and the greater of two errors.
use Rattle.std.proofs.Common.{◌≡◌, ℕ, ◌+◌, ◌-◌, ◌*◌, ◌%◌, ◌^◌, ◌<◌, ◌≤◌, ◌↔◌, Bool, true, false, IsTrue, List, ◌++◌, length, refl, sym, ap, ◌∙◌, subst, arith, nat_eq, not, ⊎_elim, mul-le-mul_right, mul-le-mul_left, ℤ, pow_pos}
use Rattle.std.specs.Int.Digits.{number_from_digits}
use Rattle.std.proofs.Math.Nat.{one-le-pow, pow-le-pow_right}
use Rattle.std.proofs.lemmas.Bool.{cases_lt}
use Rattle.std.proofs.lemmas.Bool.Decides.{nat_tests}
use Rattle.std.proofs.lemmas.Int.{ints}
use Rattle.std.proofs.lemmas.Int.Digits.{number_lt}
use Rattle.std.proofs.lemmas.Nat.{mod-mul-add, pow-add}
use Rattle.fixed_bits.specs.Nearest.{distance}
use Rattle.fixed_bits.specs.Numbers.{with_sign}
use Rattle.fixed_bits.specs.Rounded.{IsNotAbove, IsRounded}
use Rattle.fixed_bits.specs.declared.mode.ReadMode.{ReadMode}
use Rattle.fixed_bits.specs.declared.mode.ReadMode.TheVariants.{TowardsZero}
use Rattle.fixed_bits.proofs.Public.{rounded_close}
use Rattle.fixed_numeral.proofs.Public.{magnitude_pos, number_append, parts_unique}
use Rattle.fixed_numeral.specs.Numeral.{Parts, HasNumeral, IsNumeral, base, is_minus, signed}
use Rattle.fixed_numeral.specs.Scanned.{IsScanned, exponent_unit}
use Rattle.fixed_numeral.specs.Value.{magnitude}
use Rattle.fixed_numeral.specs.declared.radix.Radix.{Radix}
use Rattle.fixed_numeral.specs.declared.radix.Radix.TheVariants.{Bin, Oct, Dec, Hex}
use Rattle.fixed_read.proofs.Public.{read_number_is_the_one, read_unique}
use Rattle.fixed_read.specs.Reading.{IsReadNumber, IsReading}
use Rattle.fixed_read.specs.declared.read_number.ReadNumber.{ReadNumber}
use Rattle.fixed_error.specs.ErrorSize.{HasGreaterError, HasNoGreaterError, HasSteps, IsReadWithin, error_size}
use Rattle.fixed_error.specs.Inner.Gap.{IsGap, IsGapOf, greater_part, less_part, sum_of}
use Rattle.fixed_error.specs.Inner.Sums.{Decides, padded, sum_value}
use Rattle.fixed_error.specs.declared.gap.Gap.{Gap}
use Rattle.fixed_error.proofs.SumLemmas.{power_split}

-- ---- the number of ulps of the rounded number
same_magnitude : (minus : Bool) (m n : ℕ) → with_sign minus m ≡ with_sign minus n → m ≡ n
same_magnitude false m n e = omega (arith, ints, e)
same_magnitude true m n e = omega (arith, ints, e)

none_high : (high low : ℕ) → high * 2 ^ 64 + low < 2 ^ 64 → high * 2 ^ 64 + low ≡ low
none_high high low h = omega (arith, h)

steps_whole : (mode : ReadMode) (r : Radix) (p : Parts) (f : ℕ) (found : ReadNumber) (number : ℤ) → found.format.frac ≡ f → (x : IsReading mode r p found) → (read : IsReadNumber mode r p f number) → read.ulps ≡ x.holds.high * 2 ^ 64 + found.low
steps_whole mode r p f found number at x read =
    let P : ℕ → Type 0 = λ k. IsReadNumber mode r p k x.number in
    let same : x.number ≡ number = read_unique mode r p f x.number number (subst P at x.read) read in
    let whole : ℕ = x.holds.high * 2 ^ 64 + found.low in
    same_magnitude (is_minus p.sign) read.ulps whole (sym read.value ∙ (sym same ∙ (x.holds.value ∙ ap (λ b. with_sign b whole) x.sign)))

pub steps_read : (mode : ReadMode) (r : Radix) (p : Parts) (f : ℕ) (found : ReadNumber) (number : ℤ) → found.format.frac ≡ f → IsReading mode r p found → (read : IsReadNumber mode r p f number) → read.ulps < 2 ^ 64 → read.ulps ≡ found.low
steps_read mode r p f found number at x read small =
    let steps = steps_whole mode r p f found number at x read in
    steps ∙ none_high x.holds.high found.low (omega (arith, steps, small))

-- the number of ulps fits in 64 bits if and only if it has no high bits
few_bits : (b : Bool) (high : ℕ) → (IsTrue b ↔ (0 < high)) → not b ≡ true → high ≡ 0
few_bits b high = grind (arith, nat_tests)

no_more_bits : (b : Bool) (high : ℕ) → (IsTrue b ↔ (0 < high)) → high ≡ 0 → not b ≡ true
no_more_bits b high = grind (arith, nat_tests)

pub within_by : (mode : ReadMode) (r : Radix) (f : ℕ) (bytes : List ℕ) (found : ReadNumber) → found.format.frac ≡ f → found.low < 2 ^ 64 → IsNumeral r bytes → ((p : Parts) → HasNumeral r bytes p → IsReading mode r p found)
    → IsTrue (not found.has_high_bits) ↔ IsReadWithin mode r f bytes
within_by mode r f bytes found at low n reading = (to, back)
  where
    to : IsTrue (not found.has_high_bits) → IsReadWithin mode r f bytes
    to t =
        let x = reading n.0 n.1 in
        let read : IsReadNumber mode r n.0 f x.number = subst (λ k. IsReadNumber mode r n.0 k x.number) at x.read in
        let none : x.holds.high ≡ 0 = few_bits found.has_high_bits x.holds.high x.holds.over t in
        record { parts = n.0; numeral = n.1; number = x.number; read = read; within = omega (arith, steps_whole mode r n.0 f found x.number at x read, none, low) }

    back : IsReadWithin mode r f bytes → IsTrue (not found.has_high_bits)
    back w =
        let x = reading w.parts w.numeral in
        no_more_bits found.has_high_bits x.holds.high x.holds.over (omega (arith, steps_whole mode r w.parts f found w.number at x w.read, w.within))

-- ---- roundings
pub record IsClose (num den q : ℕ) : Type 0 where
  pub above : num < q * den + den
  pub below : q * den < num + den

pub close : (mode : ReadMode) (negative : Bool) (num den q : ℕ) → 0 < den → IsRounded mode negative num den q → IsClose num den q
close mode negative num den q h x = let near = rounded_close mode negative num den q h x in record { above = near.1; below = near.0 }

-- a rounded number is the whole number below or the next one
record IsNextTo (num den k q : ℕ) : Type 0 where
  least : k ≤ q
  most : q ≤ k + 1

next_to : (num den k q : ℕ) → 0 < den → IsNotAbove num den k → IsClose num den q → IsNextTo num den k q
next_to num den k q h x c = record {
  least = ⊎_elim
      (λ (less : q < k). let m : (q + 1) * den ≤ k * den = mul-le-mul_right den (omega (arith, less)) in absurd (omega (arith, m, x.at_most, c.above)))
      (λ (more : k ≤ q). more)
      (cases_lt q k);
  most = ⊎_elim
      (λ (more : k + 1 < q). let m : (k + 2) * den ≤ q * den = mul-le-mul_right den (omega (arith, more)) in absurd (omega (arith, m, x.next, c.below)))
      (λ (within : q ≤ k + 1). within)
      (cases_lt (k + 1) q);
}

-- if a numeral rounds to fewer than 2^64 ulps in some mode, it does so in mode TowardsZero
pub within_below : (mode : ReadMode) (r : Radix) (f : ℕ) (bytes : List ℕ) → IsReadWithin mode r f bytes → IsReadWithin TowardsZero r f bytes
within_below mode r f bytes w =
    let v = read_number_is_the_one TowardsZero r w.parts f in
    let num : ℕ = (magnitude r w.parts).num * 2 ^ f in
    let den : ℕ = (magnitude r w.parts).den in
    let some = magnitude_pos r w.parts in
    let n = next_to num den v.1.ulps w.read.ulps some v.1.rounded (close mode (is_minus w.parts.sign) num den w.read.ulps some w.read.rounded) in
    record { parts = w.parts; numeral = w.numeral; number = v.0; read = v.1; within = omega (arith, n.least, w.within) }

-- ---- the gap
-- num / den is (w + n / power) * unit: a numeral in ulps, with whole digits w and the fraction n / power
pub record IsInUlps (num den w n power unit : ℕ) : Type 0 where
  pub number : num * power ≡ (w * power + n) * unit * den
  pub less : n < power

pub cancel_le : (a b t : ℕ) → 0 < t → a * t ≤ b * t → a ≤ b
cancel_le a b t h e = ⊎_elim (λ (less : b < a). let m : (b + 1) * t ≤ a * t = mul-le-mul_right t (omega (arith, less)) in absurd (omega (arith, m, e, h))) (λ (more : a ≤ b). more) (cases_lt b a)

pub cancel_lt : (a b t : ℕ) → a * t < b * t → a < b
cancel_lt a b t e = ⊎_elim (λ (less : a < b). less) (λ (more : b ≤ a). let m : b * t ≤ a * t = mul-le-mul_right t more in absurd (omega (arith, m, e))) (cases_lt a b)

-- k is the whole number of ulps below; k - w * unit of them belong to the fraction n / power
record IsBelow (w n power unit k : ℕ) : Type 0 where
  least : w * unit ≤ k
  low : (k - w * unit) * power ≤ n * unit
  high : n * unit < (k - w * unit + 1) * power
  small : k - w * unit < unit

below_of : (num den w n power unit k : ℕ) → 0 < den → 0 < power → 0 < unit → IsInUlps num den w n power unit → IsNotAbove num den k → IsBelow w n power unit k
below_of num den w n power unit k hd hp hu i x =
    let a : k * den * power ≤ num * power = mul-le-mul_right power x.at_most in
    let b : (num + 1) * power ≤ (k + 1) * den * power = mul-le-mul_right power (omega (arith, x.next)) in
    let low : k * power ≤ (w * power + n) * unit = cancel_le (k * power) ((w * power + n) * unit) den hd (omega (arith, a, i.number)) in
    let high : (w * power + n) * unit < (k + 1) * power = cancel_lt ((w * power + n) * unit) ((k + 1) * power) den (omega (arith, b, i.number, hp)) in
    let least : w * unit < k + 1 = cancel_lt (w * unit) (k + 1) power (omega (arith, high)) in
    let d : ℕ = k - w * unit in
    let split : k * power ≡ (w * unit + d) * power = ap (λ t. t * power) (let e : k ≡ w * unit + (k - w * unit) = omega (arith, least) in e) in
    let n_less : (n + 1) * unit ≤ power * unit = mul-le-mul_right unit (omega (arith, i.less)) in
    record {
      least = omega (arith, least);
      low = omega (arith, split, low);
      high = omega (arith, split, high);
      small = cancel_lt d unit power (omega (arith, split, low, n_less, hu));
    }

rest_of : (m unit d k : ℕ) → k ≡ m * unit + d → d < unit → k % unit ≡ d
rest_of m unit d k e h = ap (λ t. t % unit) e ∙ mod-mul-add m unit d h

pub gap_is : (num den w n power unit k q more : ℕ) (up : Bool) → 0 < den → 0 < power → 0 < unit → IsInUlps num den w n power unit → IsNotAbove num den k → IsClose num den q
    → more ≡ q - k → (up ≡ true → q ≡ k → ⊥) → (up ≡ false → q ≡ k) → IsGapOf num den q power n (record { unit = unit; whole = k % unit + more; is_rounded_up = up })
gap_is num den w n power unit k q more up hd hp hu i x c em eu ed =
    let b = below_of num den w n power unit k hd hp hu i x in
    let t = next_to num den k q hd x c in
    let d : ℕ = k - w * unit in
    let r : k % unit ≡ d = rest_of w unit d k (omega (arith, b.least)) b.small in
    let whole : k % unit + more ≡ q - w * unit = omega (arith, r, em, t.least, b.least) in
    let e : q ≡ w * unit + (k % unit + more) = omega (arith, whole, t.least, b.least) in
    let s : q * den * power ≡ (w * unit + (k % unit + more)) * den * power = ap (λ v. v * den * power) e in
    record {
      sum = omega (arith, s, i.number);
      down = λ no.
          let same : k % unit + more ≡ d = omega (arith, r, em, ed no) in
          let m : (k % unit + more) * power ≡ d * power = ap (λ v. v * power) same in
          omega (arith, m, b.low);
      up = λ yes.
          let one : q ≡ k + 1 = ⊎_elim (λ (less : k < q). omega (arith, less, t.most)) (λ (same : q ≤ k). absurd (eu yes (omega (arith, same, t.least)))) (cases_lt k q) in
          let next : k % unit + more ≡ d + 1 = omega (arith, r, em, one) in
          let m : (k % unit + more) * power ≡ (d + 1) * power = ap (λ v. v * power) next in
          omega (arith, m, b.high);
    }

unit_most : (r : Radix) → exponent_unit r ≤ 4
unit_most Bin = omega arith
unit_most Oct = omega arith
unit_most Dec = omega arith
unit_most Hex = omega arith

pub shift_small : (r : Radix) (f s : ℕ) → f ≤ 64 → s < exponent_unit r → f + s ≤ 67
shift_small r f s h k = omega (arith, h, k, unit_most r)

-- a scanned numeral in ulps of 2^-f, from its digits
pub in_ulps_of : (r : Radix) (p : Parts) (f : ℕ) (negative : Bool) (whole fraction : List ℕ) (s : ℕ) → IsScanned r p negative whole fraction s
    → IsInUlps ((magnitude r p).num * 2 ^ f) (magnitude r p).den (number_from_digits (base r) whole) (number_from_digits (base r) fraction) (base r ^ length fraction) (2 ^ (f + s))
in_ulps_of r p f negative whole fraction s x =
    let b : ℕ = base r in
    let num : ℕ = (magnitude r p).num in
    let den : ℕ = (magnitude r p).den in
    let m : ℕ = number_from_digits b (whole ++ fraction) in
    let power : ℕ = b ^ length fraction in
    let append : m ≡ number_from_digits b whole * power + number_from_digits b fraction = number_append b whole fraction in
    let same : m * 2 ^ s * den ≡ num * power = x.value in
    let up : m * 2 ^ s * den * 2 ^ f ≡ num * power * 2 ^ f = ap (λ t. t * 2 ^ f) same in
    let unit : m * 2 ^ (f + s) * den ≡ m * (2 ^ f * 2 ^ s) * den = ap (λ t. m * t * den) (pow-add 2 f s) in
    let spread : m * 2 ^ (f + s) * den ≡ (number_from_digits b whole * power + number_from_digits b fraction) * 2 ^ (f + s) * den = ap (λ t. t * 2 ^ (f + s) * den) append in
    record { number = omega (arith, up, unit, spread); less = number_lt b fraction x.fraction_digits }

-- ---- the size of an error
-- size / power is the error in ulps, and size the difference of the gap's two parts
record HasSize (num den q power n : ℕ) (gap : Gap) (size : ℕ) : Type 0 where
  high : size + (less_part gap).whole * power + (less_part gap).factor * n ≡ (greater_part gap).whole * power + (greater_part gap).factor * n
  error : distance num (q * den) * power ≡ size * den

down_size : (num den q power n unit whole : ℕ) → 0 < power → IsGapOf num den q power n (record { unit = unit; whole = whole; is_rounded_up = false }) → (size : ℕ) × HasSize num den q power n (record { unit = unit; whole = whole; is_rounded_up = false }) size
down_size num den q power n unit whole h g =
    let low = g.down refl in
    let size : ℕ = unit * n - whole * power in
    let e : size + whole * power ≡ unit * n = omega (arith, low) in
    let m : (size + whole * power) * den ≡ unit * n * den = ap (λ t. t * den) e in
    let sum : q * den * power + size * den ≡ num * power = omega (arith, m, g.sum) in
    let order : q * den ≤ num = cancel_le (q * den) num power h (omega (arith, sum)) in
    let apart : num ≡ q * den + (num - q * den) = omega (arith, order) in
    let far : distance num (q * den) ≡ num - q * den = omega (arith, order) in
    let far_power : distance num (q * den) * power ≡ (num - q * den) * power = ap (λ t. t * power) far in
    let num_power : num * power ≡ (q * den + (num - q * den)) * power = ap (λ t. t * power) apart in
    (size, record { high = omega (arith, e); error = omega (arith, far_power, num_power, sum) })

up_size : (num den q power n unit whole : ℕ) → 0 < power → IsGapOf num den q power n (record { unit = unit; whole = whole; is_rounded_up = true }) → (size : ℕ) × HasSize num den q power n (record { unit = unit; whole = whole; is_rounded_up = true }) size
up_size num den q power n unit whole h g =
    let low = g.up refl in
    let size : ℕ = whole * power - unit * n in
    let e : size + unit * n ≡ whole * power = omega (arith, low) in
    let m : (size + unit * n) * den ≡ whole * power * den = ap (λ t. t * den) e in
    let sum : num * power + size * den ≡ q * den * power = omega (arith, m, g.sum) in
    let order : num ≤ q * den = cancel_le num (q * den) power h (omega (arith, sum)) in
    let apart : q * den ≡ num + (q * den - num) = omega (arith, order) in
    let far : distance num (q * den) ≡ q * den - num = omega (arith, order) in
    let far_power : distance num (q * den) * power ≡ (q * den - num) * power = ap (λ t. t * power) far in
    let num_power : q * den * power ≡ (num + (q * den - num)) * power = ap (λ t. t * power) apart in
    (size, record { high = omega (arith, e); error = omega (arith, far_power, num_power, sum) })

size_by : (num den q power n unit whole : ℕ) (up : Bool) → 0 < power → IsGapOf num den q power n (record { unit = unit; whole = whole; is_rounded_up = up }) → (size : ℕ) × HasSize num den q power n (record { unit = unit; whole = whole; is_rounded_up = up }) size
size_by num den q power n unit whole false h g = down_size num den q power n unit whole h g
size_by num den q power n unit whole true h g = up_size num den q power n unit whole h g

size_of : (num den q power n : ℕ) (gap : Gap) → 0 < power → IsGapOf num den q power n gap → (size : ℕ) × HasSize num den q power n gap size
size_of num den q power n gap h g = size_by num den q power n gap.unit gap.whole gap.is_rounded_up h g

-- ---- the gap of a numeral
pub steps_for : (mode : ReadMode) (r : Radix) (f : ℕ) (bytes : List ℕ) (n : ℕ) → HasSteps mode r f bytes n → (p : Parts) → HasNumeral r bytes p → (v : ℤ) (read : IsReadNumber mode r p f v) → read.ulps ≡ n
steps_for mode r f bytes n h p numeral v read =
    let same : h.parts ≡ p = parts_unique r bytes h.parts p h.numeral.beginning numeral.beginning in
    let value : h.number ≡ signed h.parts.sign n = h.read.value ∙ ap (signed h.parts.sign) h.steps_are in
    let moved : h.number ≡ signed p.sign n = subst (λ q. h.number ≡ signed q.sign n) same value in
    let found : IsReadNumber mode r p f h.number = subst (λ q. IsReadNumber mode r q f h.number) same h.read in
    let one : v ≡ h.number = read_unique mode r p f v h.number read found in
    same_magnitude (is_minus p.sign) read.ulps n (sym read.value ∙ (one ∙ moved))

-- k is the number of whole ulps below a numeral, and q the number of ulps that it rounds to
pub record AreAround (mode : ReadMode) (r : Radix) (f : ℕ) (p : Parts) (v : ℤ) (read : IsReadNumber mode r p f v) (k q : ℕ) : Type 0 where
  pub floor : IsNotAbove ((magnitude r p).num * 2 ^ f) (magnitude r p).den k
  pub near : IsClose ((magnitude r p).num * 2 ^ f) (magnitude r p).den q
  pub least : k ≤ q
  pub most : q ≤ k + 1
  pub steps : read.ulps ≡ q

pub around : (mode : ReadMode) (r : Radix) (f : ℕ) (bytes : List ℕ) (k q : ℕ) (w : IsReadWithin mode r f bytes) → (IsReadWithin TowardsZero r f bytes → HasSteps TowardsZero r f bytes k) → (IsReadWithin mode r f bytes → HasSteps mode r f bytes q)
    → AreAround mode r f w.parts w.number w.read k q
unfolding within_below
around mode r f bytes k q w below rounded =
    let num : ℕ = (magnitude r w.parts).num * 2 ^ f in
    let den : ℕ = (magnitude r w.parts).den in
    let some = magnitude_pos r w.parts in
    let z = within_below mode r f bytes w in
    let k_is : z.read.ulps ≡ k = steps_for TowardsZero r f bytes k (below z) z.parts z.numeral z.number z.read in
    let q_is : w.read.ulps ≡ q = steps_for mode r f bytes q (rounded w) w.parts w.numeral w.number w.read in
    let floor : IsNotAbove num den k = subst (λ t. IsNotAbove num den t) k_is z.read.rounded in
    let near : IsClose num den q = subst (λ t. IsClose num den t) q_is (close mode (is_minus w.parts.sign) num den w.read.ulps some w.read.rounded) in
    let n = next_to num den k q some floor near in
    record { floor = floor; near = near; least = n.least; most = n.most; steps = q_is }

up_not : (q k : ℕ) → not (nat_eq q k) ≡ true → q ≡ k → ⊥
up_not q k = grind (arith, nat_tests)

down_same : (q k : ℕ) → not (nat_eq q k) ≡ false → q ≡ k
down_same q k = grind (arith, nat_tests)

pub gap_found : (mode : ReadMode) (r : Radix) (f : ℕ) (bytes : List ℕ) (negative : Bool) (whole fraction : List ℕ) (s k q unit more : ℕ) (w : IsReadWithin mode r f bytes) → f ≤ 64 → s < exponent_unit r
    → ((p : Parts) → HasNumeral r bytes p → IsScanned r p negative whole fraction s) → AreAround mode r f w.parts w.number w.read k q → unit ≡ 2 ^ (f + s) → more ≡ k % unit + (q - k)
    → IsGap mode r f bytes fraction (record { unit = unit; whole = more; is_rounded_up = not (nat_eq q k) })
gap_found mode r f bytes negative whole fraction s k q unit more w hf hs scanned a unit_is more_is = subst P (sym unit_is) by_power
  where
    up : Bool
    up = not (nat_eq q k)

    P : ℕ → Type 0
    P u = IsGap mode r f bytes fraction (record { unit = u; whole = more; is_rounded_up = up })

    num : ℕ
    num = (magnitude r w.parts).num * 2 ^ f

    den : ℕ
    den = (magnitude r w.parts).den

    power : ℕ
    power = base r ^ length fraction

    n : ℕ
    n = number_from_digits (base r) fraction

    base_some : (radix : Radix) → 1 ≤ base radix
    base_some Bin = omega arith
    base_some Oct = omega arith
    base_some Dec = omega arith
    base_some Hex = omega arith

    power_some : 0 < power
    power_some = let p : 1 ≤ base r ^ length fraction = one-le-pow (length fraction) (base r) (base_some r) in omega (arith, p)

    more_by : more ≡ k % 2 ^ (f + s) + (q - k)
    more_by = more_is ∙ ap (λ u. k % u + (q - k)) unit_is

    known : IsGapOf num den q power n (record { unit = 2 ^ (f + s); whole = k % 2 ^ (f + s) + (q - k); is_rounded_up = up })
    known = gap_is num den (number_from_digits (base r) whole) n power (2 ^ (f + s)) k q (q - k) up (magnitude_pos r w.parts) power_some (pow_pos (f + s)) (in_ulps_of r w.parts f negative whole fraction s (scanned w.parts w.numeral)) a.floor a.near refl (up_not q k) (down_same q k)

    with_more : IsGapOf num den q power n (record { unit = 2 ^ (f + s); whole = more; is_rounded_up = up })
    with_more = subst (λ m. IsGapOf num den q power n (record { unit = 2 ^ (f + s); whole = m; is_rounded_up = up })) (sym more_by) known

    with_steps : IsGapOf num den w.read.ulps power n (record { unit = 2 ^ (f + s); whole = more; is_rounded_up = up })
    with_steps = subst (λ t. IsGapOf num den t power n (record { unit = 2 ^ (f + s); whole = more; is_rounded_up = up })) (sym a.steps) with_more

    unit_small : 2 ^ (f + s) ≤ 2 ^ 67
    unit_small = pow-le-pow_right (omega arith) (shift_small r f s hf hs)

    rest_small : k % 2 ^ (f + s) < 2 ^ (f + s)
    rest_small = let some : 0 < 2 ^ (f + s) = pow_pos (f + s) in omega (arith, some)

    by_power : P (2 ^ (f + s))
    by_power = record {
      parts = w.parts;
      numeral = w.numeral;
      number = w.number;
      read = w.read;
      is_gap = with_steps;
      unit_small = unit_small;
      whole_small = omega (arith, more_by, rest_small, unit_small, a.least, a.most);
    }

-- ---- the sizes of two errors
-- the same over b, the power of the places of both errors; x is the number that the padded digits spell
pub record HasSizeBy (num den q b x : ℕ) (gap : Gap) (size : ℕ) : Type 0 where
  pub high : size + (less_part gap).whole * b + (less_part gap).factor * x ≡ (greater_part gap).whole * b + (greater_part gap).factor * x
  pub error : distance num (q * den) * b ≡ size * den

size_by_places : (num den q power n c b x : ℕ) (gap : Gap) (size : ℕ) → HasSize num den q power n gap size → b ≡ power * c → x ≡ n * c → HasSizeBy num den q b x gap (size * c)
size_by_places num den q power n c b x gap size h eb ex =
    let high : (size + (less_part gap).whole * power + (less_part gap).factor * n) * c ≡ ((greater_part gap).whole * power + (greater_part gap).factor * n) * c = ap (λ t. t * c) h.high in
    let error : distance num (q * den) * power * c ≡ size * den * c = ap (λ t. t * c) h.error in
    let lb : (less_part gap).whole * b ≡ (less_part gap).whole * (power * c) = ap (λ t. (less_part gap).whole * t) eb in
    let lx : (less_part gap).factor * x ≡ (less_part gap).factor * (n * c) = ap (λ t. (less_part gap).factor * t) ex in
    let gb : (greater_part gap).whole * b ≡ (greater_part gap).whole * (power * c) = ap (λ t. (greater_part gap).whole * t) eb in
    let gx : (greater_part gap).factor * x ≡ (greater_part gap).factor * (n * c) = ap (λ t. (greater_part gap).factor * t) ex in
    let db : distance num (q * den) * b ≡ distance num (q * den) * (power * c) = ap (λ t. distance num (q * den) * t) eb in
    record { high = omega (arith, high, lb, lx, gb, gx); error = omega (arith, error, db) }

-- left - right = s - t
record AreSizes (s t left right : ℕ) : Type 0 where
  same : left + t ≡ s + right

sums_of : (lw1 lf1 gw1 gf1 lw2 lf2 gw2 gf2 s t b x z : ℕ) → s + lw1 * b + lf1 * x ≡ gw1 * b + gf1 * x → t + lw2 * b + lf2 * z ≡ gw2 * b + gf2 * z → AreSizes s t ((gw1 + lw2) * b + (gf1 * x + lf2 * z)) ((lw1 + gw2) * b + (lf1 * x + gf2 * z))
sums_of lw1 lf1 gw1 gf1 lw2 lf2 gw2 gf2 s t b x z e f = record { same = omega (arith, e, f) }

sizes_of : (b n : ℕ) (one other : List ℕ) (g h : Gap) (s t : ℕ) → (s + (less_part g).whole * b ^ n + (less_part g).factor * padded b n one ≡ (greater_part g).whole * b ^ n + (greater_part g).factor * padded b n one)
    → (t + (less_part h).whole * b ^ n + (less_part h).factor * padded b n other ≡ (greater_part h).whole * b ^ n + (greater_part h).factor * padded b n other)
    → AreSizes s t (sum_value b n one other (sum_of (greater_part g) (less_part h))) (sum_value b n one other (sum_of (less_part g) (greater_part h)))
unfolding sum_value
sizes_of b n one other g h s t e f = sums_of (less_part g).whole (less_part g).factor (greater_part g).whole (greater_part g).factor (less_part h).whole (less_part h).factor (greater_part h).whole (greater_part h).factor s t (b ^ n) (padded b n one) (padded b n other) e f

pub greater_by : (d e den den' s t b u : ℕ) → 0 < den → 0 < den' → 0 < u → d * b ≡ s * den → e * b ≡ t * den' → t < s → e * (u * den) < d * (u * den')
greater_by d e den den' s t b u hd he hu p q less =
    let step : (t + 1) * (den * den') ≤ s * (den * den') = mul-le-mul_right (den * den') (omega (arith, less)) in
    let some : 1 * 1 ≤ den * den' = mul_mono 1 den 1 den' (omega (arith, hd)) (omega (arith, he)) in
    let pp : d * b * den' ≡ s * den * den' = ap (λ v. v * den') p in
    let qq : e * b * den ≡ t * den' * den = ap (λ v. v * den) q in
    let l : e * den < d * den' = cancel_lt (e * den) (d * den') b (omega (arith, step, some, pp, qq)) in
    let m : (e * den + 1) * u ≤ d * den' * u = mul-le-mul_right u (omega (arith, l)) in
    omega (arith, m, hu)
  where
    mul_mono : (a b c d : ℕ) → a ≤ b → c ≤ d → a * c ≤ b * d
    mul_mono a b c d h k = let x : a * c ≤ b * c = mul-le-mul_right c h in let y : b * c ≤ b * d = mul-le-mul_left b k in omega (arith, x, y)

pub at_most_by : (d e den den' s t b u : ℕ) → 0 < b → d * b ≡ s * den → e * b ≡ t * den' → s ≤ t → d * (u * den') ≤ e * (u * den)
at_most_by d e den den' s t b u hb p q less =
    let step : s * (den * den') ≤ t * (den * den') = mul-le-mul_right (den * den') less in
    let pp : d * b * den' ≡ s * den * den' = ap (λ v. v * den') p in
    let qq : e * b * den ≡ t * den' * den = ap (λ v. v * den) q in
    let l : d * den' ≤ e * den = cancel_le (d * den') (e * den) b hb (omega (arith, step, pp, qq)) in
    let m : d * den' * u ≤ e * den * u = mul-le-mul_right u l in
    omega (arith, m)

pub base_least : (r : Radix) → 1 ≤ base r
base_least Bin = omega arith
base_least Oct = omega arith
base_least Dec = omega arith
base_least Hex = omega arith

-- the size of one error, over the places of both
pub places_of : (mode : ReadMode) (r : Radix) (f n : ℕ) (bytes digits : List ℕ) (gap : Gap) (x : IsGap mode r f bytes digits gap) → length digits ≤ n
    → (size : ℕ) × HasSizeBy ((magnitude r x.parts).num * 2 ^ f) (magnitude r x.parts).den x.read.ulps (base r ^ n) (padded (base r) n digits) gap size
unfolding padded
places_of mode r f n bytes digits gap x h =
    let power : ℕ = base r ^ length digits in
    let some : 1 ≤ base r ^ length digits = one-le-pow (length digits) (base r) (base_least r) in
    let s = size_of ((magnitude r x.parts).num * 2 ^ f) (magnitude r x.parts).den x.read.ulps power (number_from_digits (base r) digits) gap (omega (arith, some)) x.is_gap in
    (s.0 * base r ^ (n - length digits), size_by_places ((magnitude r x.parts).num * 2 ^ f) (magnitude r x.parts).den x.read.ulps power (number_from_digits (base r) digits) (base r ^ (n - length digits)) (base r ^ n) _ gap s.0 s.1 (power_split (base r) (length digits) n h) refl)

pub greater_error : (mode : ReadMode) (r : Radix) (f : ℕ) (one other ones others : List ℕ) (g h : Gap) (result : Bool) → IsGap mode r f one ones g → IsGap mode r f other others h
    → Decides (base r) ones others (sum_of (greater_part g) (less_part h)) (sum_of (less_part g) (greater_part h)) result → result ≡ true → HasGreaterError mode r f one other
greater_error mode r f one other ones others g h result x y d is =
    let n : ℕ = d.places in
    let u = places_of mode r f n one ones g x d.one_within in
    let v = places_of mode r f n other others h y d.other_within in
    let both = sizes_of (base r) n ones others g h u.0 v.0 u.1.high v.1.high in
    let less : v.0 < u.0 = omega (arith, both.same, d.greater is) in
    record {
      one_size = error_size (magnitude r x.parts) f x.read.ulps;
      has_one = record { parts = x.parts; numeral = x.numeral; number = x.number; read = x.read; size_is = refl };
      other_size = error_size (magnitude r y.parts) f y.read.ulps;
      has_other = record { parts = y.parts; numeral = y.numeral; number = y.number; read = y.read; size_is = refl };
      greater = greater_by (distance ((magnitude r x.parts).num * 2 ^ f) (x.read.ulps * (magnitude r x.parts).den)) (distance ((magnitude r y.parts).num * 2 ^ f) (y.read.ulps * (magnitude r y.parts).den)) (magnitude r x.parts).den (magnitude r y.parts).den u.0 v.0 (base r ^ n) (2 ^ f) (magnitude_pos r x.parts) (magnitude_pos r y.parts) (pow_pos f) u.1.error v.1.error less;
    }

pub no_greater_error : (mode : ReadMode) (r : Radix) (f : ℕ) (one other ones others : List ℕ) (g h : Gap) (result : Bool) → IsGap mode r f one ones g → IsGap mode r f other others h
    → Decides (base r) ones others (sum_of (greater_part g) (less_part h)) (sum_of (less_part g) (greater_part h)) result → result ≡ false → HasNoGreaterError mode r f one other
no_greater_error mode r f one other ones others g h result x y d is =
    let n : ℕ = d.places in
    let u = places_of mode r f n one ones g x d.one_within in
    let v = places_of mode r f n other others h y d.other_within in
    let both = sizes_of (base r) n ones others g h u.0 v.0 u.1.high v.1.high in
    let less : u.0 ≤ v.0 = omega (arith, both.same, d.not is) in
    let some : 1 ≤ base r ^ n = one-le-pow n (base r) (base_least r) in
    record {
      one_size = error_size (magnitude r x.parts) f x.read.ulps;
      has_one = record { parts = x.parts; numeral = x.numeral; number = x.number; read = x.read; size_is = refl };
      other_size = error_size (magnitude r y.parts) f y.read.ulps;
      has_other = record { parts = y.parts; numeral = y.numeral; number = y.number; read = y.read; size_is = refl };
      at_most = at_most_by (distance ((magnitude r x.parts).num * 2 ^ f) (x.read.ulps * (magnitude r x.parts).den)) (distance ((magnitude r y.parts).num * 2 ^ f) (y.read.ulps * (magnitude r y.parts).den)) (magnitude r x.parts).den (magnitude r y.parts).den u.0 v.0 (base r ^ n) (2 ^ f) (omega (arith, some)) u.1.error v.1.error less;
    }
