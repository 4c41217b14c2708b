-- A numeral is zero if and only if it is exactly zero ulps.
use Rattle.std.proofs.Common.{◌≡◌, ℕ, ◌+◌, ◌*◌, ◌^◌, ◌<◌, ◌≤◌, ◌↔◌, Bool, true, false, IsTrue, refl, sym, ap, ◌∙◌, subst, arith, ⊎_elim, mul-le-mul_right}
use Rattle.std.proofs.lemmas.Bool.{cases_lt, false≢true}
use Rattle.std.proofs.lemmas.Int.{ints}
use Rattle.fixed_bits.specs.Numbers.{with_sign}
use Rattle.fixed_bits.specs.declared.mode.ReadMode.TheVariants.{TowardsZero}
use Rattle.fixed_numeral.specs.Numeral.{Parts, is_minus}
use Rattle.fixed_numeral.specs.Value.{magnitude}
use Rattle.fixed_numeral.specs.declared.radix.Radix.{Radix}
use Rattle.fixed_numeral.proofs.Public.{magnitude_pos}
use Rattle.fixed_read.specs.Reading.{IsReading}
use Rattle.fixed_read.specs.declared.read_number.ReadNumber.{ReadNumber}
use Rattle.fixed_fit.specs.Fitting.{IsBelowZero}

same_magnitude : (minus : Bool) (m n : ℕ) → with_sign minus m ≡ with_sign minus n → m ≡ n
same_magnitude false m n e = omega (arith, ints, e)
same_magnitude true m n e = omega (arith, ints, e)

few : (num den k : ℕ) → num ≡ k * den → num < (0 + 1) * den → num ≡ 0
few num den k e less =
    ⊎_elim
    (λ (some : 0 < k). absurd (let step : 1 * den ≤ k * den = mul-le-mul_right den (omega (arith, some)) in omega (arith, step, e, less)))
    (λ (none : k ≤ 0). let zero : k ≡ 0 = omega (arith, none) in let same : k * den ≡ 0 * den = ap (λ q. q * den) zero in omega (arith, e, same))
    (cases_lt 0 k)

none_of : (den q : ℕ) → 0 < den → q * den ≤ 0 → q ≡ 0
none_of den q some less =
    ⊎_elim
    (λ (more : 0 < q). absurd (let step : 1 * den ≤ q * den = mul-le-mul_right den (omega (arith, more)) in omega (arith, step, some, less)))
    (λ (none : q ≤ 0). omega (arith, none))
    (cases_lt 0 q)

pub no_high : (b : Bool) (high : ℕ) → (IsTrue b ↔ (0 < high)) → b ≡ false → high ≡ 0
no_high b high over is =
    ⊎_elim
    (λ (some : 0 < high). absurd (false≢true (sym is ∙ over.1 some)))
    (λ (none : high ≤ 0). omega (arith, none))
    (cases_lt 0 high)

pub not_high : (b : Bool) (high : ℕ) → (IsTrue b ↔ (0 < high)) → high ≡ 0 → b ≡ false
not_high false high over none = refl
not_high true high over none = absurd (let some : 0 < high = over.0 refl in omega (arith, some, none))

-- the number of ulps that a reading holds
pub ulps_of : (r : Radix) (p : Parts) (found : ReadNumber) → (x : IsReading TowardsZero r p found) → x.read.ulps ≡ x.holds.high * 2 ^ 64 + found.low
ulps_of r p found x =
    let whole : ℕ = x.holds.high * 2 ^ 64 + found.low in
    same_magnitude (is_minus p.sign) x.read.ulps whole (sym x.read.value ∙ (x.holds.value ∙ ap (λ b. with_sign b whole) x.sign))

zero_is : (r : Radix) (p : Parts) (found : ReadNumber) → found.format.frac ≡ 0 → IsReading TowardsZero r p found → found.exact ≡ true → found.low ≡ 0 → found.has_high_bits ≡ false → (magnitude r p).num ≡ 0
zero_is r p found at x exact low high =
    let num : ℕ = (magnitude r p).num in
    let den : ℕ = (magnitude r p).den in
    let none : x.read.ulps ≡ 0 = ulps_of r p found x ∙ omega (arith, low, no_high found.has_high_bits x.holds.high x.holds.over high) in
    let k = x.exact.0 exact in
    let P : ℕ → Type 0 = λ f. num * 2 ^ f ≡ num in
    let one : num * 2 ^ found.format.frac ≡ num = subst P (sym at) (omega arith) in
    let Q : ℕ → Type 0 = λ q. num * 2 ^ found.format.frac < (q + 1) * den in
    let less : num * 2 ^ found.format.frac < (0 + 1) * den = subst Q none x.read.rounded.next in
    few num den k.0 (sym one ∙ k.1) (omega (arith, less, one))

is_zero : (r : Radix) (p : Parts) (found : ReadNumber) → IsReading TowardsZero r p found → (magnitude r p).num ≡ 0 → (found.exact ≡ true) × (found.low ≡ 0) × (found.has_high_bits ≡ false)
is_zero r p found x none =
    let den : ℕ = (magnitude r p).den in
    let up : ℕ = 2 ^ found.format.frac in
    let same : (magnitude r p).num * up ≡ 0 * up = ap (λ m. m * up) none in
    let nothing : (magnitude r p).num * up ≡ 0 = omega (arith, same) in
    let ulps : x.read.ulps ≡ 0 = none_of den x.read.ulps (magnitude_pos r p) (omega (arith, x.read.rounded.at_most, nothing)) in
    let whole : x.holds.high * 2 ^ 64 + found.low ≡ 0 = sym (ulps_of r p found x) ∙ ulps in
    (x.exact.1 (0, omega (arith, nothing)), omega (arith, whole), not_high found.has_high_bits x.holds.high x.holds.over (omega (arith, whole)))

pub below_zero_by : (r : Radix) (p : Parts) (found : ReadNumber) (result : Bool) → found.format.frac ≡ 0 → IsReading TowardsZero r p found
    → (IsTrue result ↔ ((found.negative ≡ true) × ¬ ((found.exact ≡ true) × (found.low ≡ 0) × (found.has_high_bits ≡ false)))) → IsTrue result ↔ IsBelowZero r p
below_zero_by r p found result at x is = (to, back)
  where
    to : IsTrue result → IsBelowZero r p
    to t =
        let known = is.0 t in
        record {
          minus = sym x.sign ∙ known.0;
          some =
              ⊎_elim
              (λ (some : 0 < (magnitude r p).num). some)
              (λ (none : (magnitude r p).num ≤ 0). absurd (known.1 (is_zero r p found x (omega (arith, none)))))
              (cases_lt 0 (magnitude r p).num);
        }

    back : IsBelowZero r p → IsTrue result
    back h = is.1 (x.sign ∙ h.minus, λ z. let none : (magnitude r p).num ≡ 0 = zero_is r p found at x z.0 z.1 z.2 in omega (arith, none, h.some))
