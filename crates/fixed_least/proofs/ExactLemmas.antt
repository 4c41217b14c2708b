-- The value of a numeral in ulps of 2^-64 and its whole part, from one reading or two.
use Rattle.std.proofs.Common.{◌≡◌, ℕ, ◌+◌, ◌-◌, ◌*◌, ◌^◌, ◌<◌, ◌≤◌, ◌↔◌, Bool, true, false, IsTrue, sym, ap, ◌∙◌, subst, arith, pow_pos, ⊎_elim, mul-le-mul_right, mul-le-mul_left}
use Rattle.std.specs.Prelude.{Some, None}
use Rattle.std.proofs.Math.Nat.{le_of_mul-le-mul_left}
use Rattle.std.proofs.lemmas.Bool.{cases_lt, false≢true}
use Rattle.std.proofs.lemmas.Int.{ints}
use Rattle.fixed_bits.specs.Formats.{FormatParts, IsTypeFormat}
use Rattle.fixed_bits.specs.Ranges.{IsInRange}
use Rattle.fixed_bits.specs.Rounded.{IsNotAbove, IsRounded}
use Rattle.fixed_bits.specs.declared.mode.ReadMode.TheVariants.{TowardsZero}
use Rattle.fixed_bits.proofs.Public.{ends_wide, rounded_unique}
use Rattle.fixed_numeral.specs.Numeral.{Parts, is_minus}
use Rattle.fixed_numeral.specs.Value.{magnitude}
use Rattle.fixed_numeral.specs.declared.radix.Radix.{Radix}
use Rattle.fixed_numeral.proofs.Public.{magnitude_pos}
use Rattle.fixed_bits.specs.Numbers.{with_sign}
use Rattle.fixed_read.specs.Reading.{IsReading, IsWholeUlps}
use Rattle.fixed_read.specs.declared.read_number.ReadNumber.{ReadNumber}
use Rattle.fixed_least.specs.Holding.{Holds}
use Rattle.fixed_least.specs.Inner.Valued.{IsValueOf}
use Rattle.fixed_least.specs.declared.exact.Exact.{Exact}
use Rattle.fixed_least.specs.Lemmas.HoldingLemmas.{frac_most, split_power, width_most}

-- numbers of one sign are equal if their magnitudes are
same_magnitude : (minus : Bool) (m n : ℕ) → with_sign minus m ≡ with_sign minus n → m ≡ n
same_magnitude false m n e = omega (arith, ints, e)
same_magnitude true m n e = omega (arith, ints, e)

-- a reading towards zero at fraction length f: its magnitude in ulps, rounded down
record IsReadDown (r : Radix) (p : Parts) (f : ℕ) (found : ReadNumber) : Type 0 where
  high : ℕ
  not_above : IsNotAbove ((magnitude r p).num * 2 ^ f) (magnitude r p).den (high * 2 ^ 64 + found.low)
  over : IsTrue found.has_high_bits ↔ (0 < high)
  exact : IsTrue found.exact ↔ IsWholeUlps r p f
  sign : found.negative ≡ is_minus p.sign

read_down : (r : Radix) (p : Parts) (f : ℕ) (found : ReadNumber) → found.format.frac ≡ f → IsReading TowardsZero r p found → IsReadDown r p f found
read_down r p f found at x =
    let F : ℕ → Type 0 = λ g. IsReadDown r p g found in
    subst F at (record {
      high = x.holds.high;
      not_above =
          let whole = x.holds.high * 2 ^ 64 + found.low in
          let number = sym x.read.value ∙ (x.holds.value ∙ ap (λ b. with_sign b whole) x.sign) in
          let same : x.read.ulps ≡ whole = same_magnitude (is_minus p.sign) x.read.ulps whole number in
          let P : ℕ → Type 0 = λ q. IsNotAbove ((magnitude r p).num * 2 ^ found.format.frac) (magnitude r p).den q in
          subst P same x.read.rounded;
      over = x.holds.over;
      exact = x.exact;
      sign = x.sign;
    })

-- a multiple of the denominator, divided by it and rounded down, loses nothing
whole_is_rounded : (m den q k : ℕ) → 0 < den → IsNotAbove m den q → m ≡ k * den → m ≡ q * den
whole_is_rounded m den q k some h e =
    let itself : IsRounded TowardsZero false m den k = record { at_most = omega (arith, e); next = omega (arith, e, some) } in
    e ∙ ap (λ x. x * den) (rounded_unique TowardsZero false m den k q some itself h)

exact_ulps : (r : Radix) (p : Parts) (fine : ReadNumber) → (h : IsReadDown r p 64 fine) → fine.exact ≡ true → (magnitude r p).num * 2 ^ 64 ≡ (h.high * 2 ^ 64 + fine.low) * (magnitude r p).den
exact_ulps r p fine h is =
    let k = h.exact.0 is in
    whole_is_rounded ((magnitude r p).num * 2 ^ 64) (magnitude r p).den (h.high * 2 ^ 64 + fine.low) k.0 (magnitude_pos r p) h.not_above k.1

-- ---- no format holds a numeral with more than 64 fraction bits
held_is_whole : (r : Radix) (p : Parts) (f : FormatParts) → IsTypeFormat f.width f.frac → Holds r p f → IsWholeUlps r p 64
held_is_whole r p f is h =
    let up : ℕ = 2 ^ f.frac in
    let down : ℕ = 2 ^ (64 - f.frac) in
    let num : ℕ = (magnitude r p).num in
    let den : ℕ = (magnitude r p).den in
    let power : 2 ^ 64 ≡ up * down = split_power f.frac (frac_most f is) in
    (h.count * down, ap (λ x. num * x) power ∙ scaled num den up down h.count h.exact)
  where
    scaled : (num den up down count : ℕ) → num * up ≡ count * den → num * (up * down) ≡ (count * down) * den
    scaled num den up down count e = omega (arith, ap (λ x. x * down) e)

pub inexact : (r : Radix) (p : Parts) (fine : ReadNumber) → fine.format.frac ≡ 64 → IsReading TowardsZero r p fine → fine.exact ≡ false → IsValueOf r p None
inexact r p fine at x is = λ f format h. false≢true (sym is ∙ (read_down r p 64 fine at x).exact.1 (held_is_whole r p f format h))

-- ---- a value whose ulps have at most 64 bits
no_high : (b : Bool) (high : ℕ) → (IsTrue b ↔ (0 < high)) → b ≡ false → high ≡ 0
no_high b high over is =
    ⊎_elim
    (λ (some : 0 < high). absurd (false≢true (sym is ∙ over.1 some)))
    (λ (none : high ≤ 0). omega (arith, none))
    (cases_lt 0 high)

pub short_value : (r : Radix) (p : Parts) (fine : ReadNumber) (e : Exact) → fine.format.frac ≡ 64 → IsReading TowardsZero r p fine → fine.exact ≡ true → fine.has_high_bits ≡ false → e.negative ≡ fine.negative → e.ulps ≡ fine.low → IsValueOf r p (Some e)
short_value r p fine e at x is low sign ulps =
    let h = read_down r p 64 fine at x in
    let none : h.high ≡ 0 = no_high fine.has_high_bits h.high h.over low in
    let all : h.high * 2 ^ 64 + fine.low ≡ e.ulps = omega (arith, none, ulps) in
    record { sign = sign ∙ h.sign; exact = exact_ulps r p fine h is ∙ ap (λ n. n * (magnitude r p).den) all }

-- ---- the whole part
whole_part : (num den q w low : ℕ) → 0 < den → num * 2 ^ 64 ≡ (q * 2 ^ 64 + low) * den → low < 2 ^ 64 → IsNotAbove num den w → q ≡ w
whole_part num den q w low some e small h =
    let itself : IsRounded TowardsZero false num den q = record {
      at_most = le_of_mul-le-mul_left {k = 2 ^ 64} (omega (arith, e)) (pow_pos 64);
      next = below_next num den q low some e small;
    } in
    rounded_unique TowardsZero false num den q w some itself h
  where
    below_next : (num den q low : ℕ) → 0 < den → num * 2 ^ 64 ≡ (q * 2 ^ 64 + low) * den → low < 2 ^ 64 → num < (q + 1) * den
    below_next num den q low some e small =
        ⊎_elim
        (λ (less : num < (q + 1) * den). less)
        (λ (more : (q + 1) * den ≤ num). absurd (
        let grown : (q + 1) * den * 2 ^ 64 ≤ num * 2 ^ 64 = mul-le-mul_right (2 ^ 64) more in
        let one_more : low + 1 ≤ 2 ^ 64 = omega (arith, small) in
        let step : (low + 1) * den ≤ 2 ^ 64 * den = mul-le-mul_right den one_more in
        omega (arith, grown, e, step, some)))
        (cases_lt num ((q + 1) * den))

coarse_part : (r : Radix) (p : Parts) (fine coarse : ReadNumber) → (h : IsReadDown r p 64 fine) → (c : IsReadDown r p 0 coarse) → fine.exact ≡ true → fine.low < 2 ^ 64 → h.high ≡ c.high * 2 ^ 64 + coarse.low
coarse_part r p fine coarse h c is small =
    let one : (magnitude r p).num * 2 ^ 0 ≡ (magnitude r p).num = omega arith in
    let P : ℕ → Type 0 = λ n. IsNotAbove n (magnitude r p).den (c.high * 2 ^ 64 + coarse.low) in
    whole_part (magnitude r p).num (magnitude r p).den h.high (c.high * 2 ^ 64 + coarse.low) fine.low (magnitude_pos r p) (exact_ulps r p fine h is) small (subst P one c.not_above)

-- ---- no format holds a numeral with more than 64 whole bits
count_small : (s : Bool) (n k : ℕ) (minus : Bool) → n ≤ 64 → IsInRange s n (with_sign minus k) → k < 2 ^ 64
count_small s n k false most h = let e = (ends_wide s n most).1.high in let u = h.high in omega (arith, ints)
count_small s n k true most h = let e = (ends_wide s n most).0.low in let u = h.low in omega (arith, ints)

too_large : (num den up count : ℕ) → 0 < den → 0 < up → num * up ≡ count * den → count < 2 ^ 64 → 2 ^ 64 * den ≤ num → ⊥
too_large num den up count some power e small large =
    let more : num * 1 ≤ num * up = mul-le-mul_left num power in
    let one_more : count + 1 ≤ 2 ^ 64 = omega (arith, small) in
    let less : (count + 1) * den ≤ 2 ^ 64 * den = mul-le-mul_right den one_more in
    omega (arith, more, less, e, large, some)

pub outside : (r : Radix) (p : Parts) (fine coarse : ReadNumber) → fine.format.frac ≡ 64 → IsReading TowardsZero r p fine → fine.exact ≡ true → fine.low < 2 ^ 64 → coarse.format.frac ≡ 0 → IsReading TowardsZero r p coarse → coarse.has_high_bits ≡ true → IsValueOf r p None
outside r p fine coarse at x is small at' y out =
    let h = read_down r p 64 fine at x in
    let c = read_down r p 0 coarse at' y in
    let high : 0 < c.high = c.over.0 out in
    let one : (magnitude r p).num * 2 ^ 0 ≡ (magnitude r p).num = omega arith in
    let large : 2 ^ 64 * (magnitude r p).den ≤ (magnitude r p).num =
    (let grown : 2 ^ 64 * (magnitude r p).den ≤ (c.high * 2 ^ 64 + coarse.low) * (magnitude r p).den = mul-le-mul_right (magnitude r p).den (omega (arith, high)) in
    omega (arith, grown, c.not_above.at_most, one)) in
    (λ f format g. too_large (magnitude r p).num (magnitude r p).den (2 ^ f.frac) g.count (magnitude_pos r p) (pow_pos f.frac) g.exact (count_small f.signed f.width g.count (is_minus p.sign) (width_most f.width format.is_width) g.in_range) large)

pub long_value : (r : Radix) (p : Parts) (fine coarse : ReadNumber) (e : Exact) → fine.format.frac ≡ 64 → IsReading TowardsZero r p fine → fine.exact ≡ true → fine.low < 2 ^ 64 → coarse.format.frac ≡ 0 → IsReading TowardsZero r p coarse → coarse.has_high_bits ≡ false → e.negative ≡ fine.negative → e.ulps ≡ coarse.low * 2 ^ 64 + fine.low → IsValueOf r p (Some e)
long_value r p fine coarse e at x is small at' y low sign ulps =
    let h = read_down r p 64 fine at x in
    let c = read_down r p 0 coarse at' y in
    let none : c.high ≡ 0 = no_high coarse.has_high_bits c.high c.over low in
    let parts_are = coarse_part r p fine coarse h c is small in
    let whole : h.high ≡ coarse.low = omega (arith, parts_are, none) in
    let all : h.high * 2 ^ 64 + fine.low ≡ e.ulps = omega (arith, ap (λ n. n * 2 ^ 64) whole, ulps) in
    record { sign = sign ∙ h.sign; exact = exact_ulps r p fine h is ∙ ap (λ n. n * (magnitude r p).den) all }
