-- Whether half an ulp is within a bound, from readings of the bound.
use Rattle.std.proofs.Common.{◌≡◌, ℕ, ◌+◌, ◌-◌, ◌*◌, ◌^◌, ◌<◌, ◌≤◌, Bool, true, false, List, [], refl, sym, ap, ◌∙◌, subst, arith, ⊎_elim, mul-le-mul_right}
use Rattle.std.proofs.lemmas.Bool.{cases_lt, false≢true}
use Rattle.std.proofs.lemmas.Nat.{pow-add}
use Rattle.fixed_bits.specs.Nearest.{distance}
use Rattle.fixed_bits.specs.Rounded.{IsNotBelow, IsRounded}
use Rattle.fixed_bits.specs.declared.mode.ReadMode.{ReadMode}
use Rattle.fixed_bits.specs.declared.mode.ReadMode.TheVariants.{Ceil, Floor, TowardsZero}
use Rattle.fixed_error.specs.ErrorSize.{HasErrorAbove, HasErrorSize, HasErrorWithin, IsAtMost, IsLess, IsReadWithin, error_size}
use Rattle.fixed_numeral.specs.Numeral.{HasNumeral, Parts, is_minus, signed}
use Rattle.fixed_numeral.specs.Value.{Fraction, magnitude}
use Rattle.fixed_numeral.specs.declared.radix.Radix.{Radix}
use Rattle.fixed_numeral.proofs.Public.{magnitude_pos, parts_unique}
use Rattle.fixed_read.specs.Reading.{IsReading}
use Rattle.fixed_read.specs.declared.read_number.ReadNumber.{ReadNumber}
use Rattle.fixed_fit.specs.Within.{IsErrorWithin, IsHalfWithin}
use Rattle.fixed_fit.proofs.NumeralLemmas.{no_high, not_high, ulps_of}

-- ---- comparisons of products
less_of : (a b d : ℕ) → a * d < b * d → a < b
less_of a b d less =
    ⊎_elim
    (λ (is : a < b). is)
    (λ (past : b ≤ a). absurd (let more : b * d ≤ a * d = mul-le-mul_right d past in omega (arith, less, more)))
    (cases_lt a b)

least_of : (a b d : ℕ) → 0 < d → a * d ≤ b * d → a ≤ b
least_of a b d some least =
    ⊎_elim
    (λ (past : b < a). absurd (let more : (b + 1) * d ≤ a * d = mul-le-mul_right d (omega (arith, past)) in omega (arith, least, more, some)))
    (λ (is : a ≤ b). is)
    (cases_lt b a)

twice : (m up : ℕ) → m * (up * 2) ≡ 2 * (m * up)
twice m up = omega arith

doubled : (m f : ℕ) → m * 2 ^ (f + 1) ≡ 2 * (m * 2 ^ f)
doubled m f = ap (λ (u : ℕ). m * u) (pow-add 2 f 1) ∙ twice m (2 ^ f)

-- x of d parts are d - x parts from a whole
missing : (x d : ℕ) → x < d → distance x (1 * d) ≡ d - x
missing x d less = omega (arith, less)

swapped : (m up d : ℕ) → m * (up * d) ≡ (m * up) * d
swapped m up d = omega arith

missing_within : (m : Fraction) (f : ℕ) → 0 < m.den → m.num * 2 ^ f < m.den → IsAtMost (error_size m f 1) m → m.den ≤ 2 * (m.num * 2 ^ f)
missing_within m f some less h =
    let x : ℕ = m.num * 2 ^ f in
    let e : distance x (1 * m.den) ≡ m.den - x = missing x m.den less in
    let whole : distance x (1 * m.den) * m.den ≤ x * m.den = subst (λ (u : ℕ). distance x (1 * m.den) * m.den ≤ u) (swapped m.num (2 ^ f) m.den) h in
    let is : distance x (1 * m.den) ≤ x = least_of (distance x (1 * m.den)) x m.den some whole in
    omega (arith, is, e, less)

missing_above : (m : Fraction) (f : ℕ) → m.num * 2 ^ f < m.den → IsLess m (error_size m f 1) → 2 * (m.num * 2 ^ f) < m.den
missing_above m f less h =
    let x : ℕ = m.num * 2 ^ f in
    let e : distance x (1 * m.den) ≡ m.den - x = missing x m.den less in
    let whole : x * m.den < distance x (1 * m.den) * m.den = subst (λ (u : ℕ). u < distance x (1 * m.den) * m.den) (swapped m.num (2 ^ f) m.den) h in
    let is : x < distance x (1 * m.den) = less_of x (distance x (1 * m.den)) m.den whole in
    omega (arith, is, e, less)

-- ---- half an ulp within a bound, or above it
half_within : (r : Radix) (f : ℕ) (bound : List ℕ) (p : Parts) → HasNumeral r bound p → (magnitude r p).den ≤ 2 * ((magnitude r p).num * 2 ^ f) → IsHalfWithin r f bound
half_within r f bound p at least = let e = doubled (magnitude r p).num f in record { parts = p; numeral = at; at_most = omega (arith, least, e) }

half_above : (r : Radix) (f : ℕ) (bound : List ℕ) (p : Parts) → HasNumeral r bound p → 2 * ((magnitude r p).num * 2 ^ f) < (magnitude r p).den → IsHalfWithin r f bound → ⊥
half_above r f bound p at less h =
    let same : h.parts ≡ p = parts_unique r bound h.parts p h.numeral.beginning at.beginning in
    let here : IsAtMost (record { num = 1; den = 2 ^ (f + 1) }) (magnitude r p) = subst (λ (k : Parts). IsAtMost (record { num = 1; den = 2 ^ (f + 1) }) (magnitude r k)) same h.at_most in
    let e = doubled (magnitude r p).num f in
    omega (arith, less, here, e)

-- ---- a bound of an ulp or more
at_least_one : (r : Radix) (p : Parts) (found : ReadNumber) (x : IsReading TowardsZero r p found) → ¬ ((found.low ≡ 0) × (found.has_high_bits ≡ false)) → 0 < x.read.ulps
at_least_one r p found x some =
    ⊎_elim
    (λ (is : 0 < x.read.ulps). is)
    (λ (none : x.read.ulps ≤ 0). absurd (
    let whole : x.holds.high * 2 ^ 64 + found.low ≡ x.read.ulps = sym (ulps_of r p found x) in
    some (omega (arith, whole, none), not_high found.has_high_bits x.holds.high x.holds.over (omega (arith, whole, none)))))
    (cases_lt 0 x.read.ulps)

no_ulps : (r : Radix) (p : Parts) (found : ReadNumber) (x : IsReading TowardsZero r p found) → (found.low ≡ 0) × (found.has_high_bits ≡ false) → x.read.ulps ≡ 0
no_ulps r p found x none = let high = no_high found.has_high_bits x.holds.high x.holds.over none.1 in let low = none.0 in ulps_of r p found x ∙ omega (arith, low, high)

pub many_within : (r : Radix) (f : ℕ) (bound : List ℕ) (p : Parts) (found : ReadNumber) → HasNumeral r bound p → found.format.frac ≡ f → IsReading TowardsZero r p found → ¬ ((found.low ≡ 0) × (found.has_high_bits ≡ false)) → IsHalfWithin r f bound
many_within r f bound p found at same x some =
    let m = magnitude r p in
    let one : 1 * m.den ≤ x.read.ulps * m.den = mul-le-mul_right m.den (at_least_one r p found x some) in
    let most : x.read.ulps * m.den ≤ m.num * 2 ^ f = subst (λ (g : ℕ). x.read.ulps * m.den ≤ m.num * 2 ^ g) same x.read.rounded.at_most in
    half_within r f bound p at (omega (arith, one, most))

-- ---- a bound below an ulp
below_ulp : (r : Radix) (f : ℕ) (p : Parts) (found : ReadNumber) → found.format.frac ≡ f → (x : IsReading TowardsZero r p found) → (found.low ≡ 0) × (found.has_high_bits ≡ false) → (magnitude r p).num * 2 ^ f < (magnitude r p).den
below_ulp r f p found same x none =
    let m = magnitude r p in
    let less : m.num * 2 ^ f < (x.read.ulps + 1) * m.den = subst (λ (g : ℕ). m.num * 2 ^ g < (x.read.ulps + 1) * m.den) same x.read.rounded.next in
    let one : (x.read.ulps + 1) * m.den ≡ (0 + 1) * m.den = ap (λ (q : ℕ). (q + 1) * m.den) (no_ulps r p found x none) in
    omega (arith, less, one)

whole_none : (x d k : ℕ) → x ≡ k * d → x < d → x ≡ 0
whole_none x d k e less =
    ⊎_elim
    (λ (some : 0 < k). absurd (let step : 1 * d ≤ k * d = mul-le-mul_right d (omega (arith, some)) in omega (arith, step, e, less)))
    (λ (none : k ≤ 0). let zero : k ≡ 0 = omega (arith, none) in let same : k * d ≡ 0 * d = ap (λ q. q * d) zero in omega (arith, e, same))
    (cases_lt 0 k)

pub zero_above : (r : Radix) (f : ℕ) (bound : List ℕ) (p : Parts) (found : ReadNumber) → HasNumeral r bound p → found.format.frac ≡ f → IsReading TowardsZero r p found → (found.low ≡ 0) × (found.has_high_bits ≡ false) → found.exact ≡ true → IsHalfWithin r f bound → ⊥
zero_above r f bound p found at same x none exact =
    let m = magnitude r p in
    let k = x.exact.0 exact in
    let less = below_ulp r f p found same x none in
    let whole : m.num * 2 ^ f ≡ k.0 * m.den = subst (λ (g : ℕ). m.num * 2 ^ g ≡ k.0 * m.den) same k.1 in
    let zero = whole_none (m.num * 2 ^ f) m.den k.0 whole less in
    half_above r f bound p at (omega (arith, zero, less))

some_part : (r : Radix) (f : ℕ) (p : Parts) (found : ReadNumber) → found.format.frac ≡ f → (x : IsReading TowardsZero r p found) → found.exact ≡ false → 0 < (magnitude r p).num * 2 ^ f
some_part r f p found same x exact =
    let m = magnitude r p in
    ⊎_elim
    (λ (some : 0 < m.num * 2 ^ f). some)
    (λ (none : m.num * 2 ^ f ≤ 0). absurd (
    let e : m.num * 2 ^ found.format.frac ≡ m.num * 2 ^ f = ap (λ (g : ℕ). m.num * 2 ^ g) same in
    false≢true (sym exact ∙ x.exact.1 (0, omega (arith, none, e)))))
    (cases_lt 0 (m.num * 2 ^ f))

-- ---- a bound below an ulp, rounded away from zero, is one ulp
to_away : (mode : ReadMode) (negative : Bool) (num den q : ℕ) → (negative ≡ true → mode ≡ Floor) → (negative ≡ false → mode ≡ Ceil) → IsNotBelow num den q → IsRounded mode negative num den q
to_away mode true num den q below above h = subst (λ (m : ReadMode). IsRounded m true num den q) (sym (below refl)) h
to_away mode false num den q below above h = subst (λ (m : ReadMode). IsRounded m false num den q) (sym (above refl)) h

of_away : (mode : ReadMode) (negative : Bool) (num den q : ℕ) → (negative ≡ true → mode ≡ Floor) → (negative ≡ false → mode ≡ Ceil) → IsRounded mode negative num den q → IsNotBelow num den q
of_away mode true num den q below above h = subst (λ (m : ReadMode). IsRounded m true num den q) (below refl) h
of_away mode false num den q below above h = subst (λ (m : ReadMode). IsRounded m false num den q) (above refl) h

one_ulp : (num den q : ℕ) → 0 < num → num < den → IsNotBelow num den q → q ≡ 1
one_ulp num den q some less h =
    let more : 0 < q = ⊎_elim
    (λ (is : 0 < q). is)
    (λ (none : q ≤ 0). absurd (let zero : q ≡ 0 = omega (arith, none) in let e : q * den ≡ 0 * den = ap (λ k. k * den) zero in let least = h.at_least in omega (arith, e, least, some)))
    (cases_lt 0 q) in
    let few : q < 2 = less_of q 2 den (let before = h.before in omega (arith, before, less)) in
    omega (arith, more, few)

pub read_within : (r : Radix) (f : ℕ) (bound : List ℕ) (p : Parts) (found : ReadNumber) (mode : ReadMode) → HasNumeral r bound p → found.format.frac ≡ f → (x : IsReading TowardsZero r p found) → (found.low ≡ 0) × (found.has_high_bits ≡ false) → found.exact ≡ false
    → (found.negative ≡ true → mode ≡ Floor) → (found.negative ≡ false → mode ≡ Ceil) → IsReadWithin mode r f bound
read_within r f bound p found mode at same x none exact below above =
    let m = magnitude r p in
    let less = below_ulp r f p found same x none in
    let some = some_part r f p found same x exact in
    record {
      parts = p;
      numeral = at;
      number = signed p.sign 1;
      read = record {
        ulps = 1;
        rounded = to_away mode (is_minus p.sign) (m.num * 2 ^ f) m.den 1 (λ e. below (x.sign ∙ e)) (λ e. above (x.sign ∙ e)) (record { at_least = omega (arith, less); before = omega (arith, some) });
        value = refl;
      };
      within = omega arith;
    }

-- the error of the bound itself in this mode
size_of : (r : Radix) (f : ℕ) (bound : List ℕ) (p : Parts) (found : ReadNumber) (mode : ReadMode) (size : Fraction) → HasNumeral r bound p → found.format.frac ≡ f → (x : IsReading TowardsZero r p found) → (found.low ≡ 0) × (found.has_high_bits ≡ false) → found.exact ≡ false
    → (found.negative ≡ true → mode ≡ Floor) → (found.negative ≡ false → mode ≡ Ceil) → HasErrorSize mode r f bound size → size ≡ error_size (magnitude r p) f 1
size_of r f bound p found mode size at same x none exact below above h =
    let one : h.parts ≡ p = parts_unique r bound h.parts p h.numeral.beginning at.beginning in
    let m = magnitude r p in
    let rounded : IsRounded mode (is_minus p.sign) (m.num * 2 ^ f) m.den h.read.ulps = subst (λ (k : Parts). IsRounded mode (is_minus k.sign) ((magnitude r k).num * 2 ^ f) (magnitude r k).den h.read.ulps) one h.read.rounded in
    let away : IsNotBelow (m.num * 2 ^ f) m.den h.read.ulps = of_away mode (is_minus p.sign) (m.num * 2 ^ f) m.den h.read.ulps (λ e. below (x.sign ∙ e)) (λ e. above (x.sign ∙ e)) rounded in
    let ulps : h.read.ulps ≡ 1 = one_ulp (m.num * 2 ^ f) m.den h.read.ulps (some_part r f p found same x exact) (below_ulp r f p found same x none) away in
    h.size_is ∙ (ap (λ (k : Parts). error_size (magnitude r k) f h.read.ulps) one ∙ ap (λ (q : ℕ). error_size m f q) ulps)

pub itself_within : (r : Radix) (f : ℕ) (bound : List ℕ) (p : Parts) (found : ReadNumber) (mode : ReadMode) → HasNumeral r bound p → found.format.frac ≡ f → (x : IsReading TowardsZero r p found) → (found.low ≡ 0) × (found.has_high_bits ≡ false) → found.exact ≡ false
    → (found.negative ≡ true → mode ≡ Floor) → (found.negative ≡ false → mode ≡ Ceil) → HasErrorWithin mode r f bound bound → IsHalfWithin r f bound
itself_within r f bound p found mode at same x none exact below above h =
    let m = magnitude r p in
    let size : h.size ≡ error_size m f 1 = size_of r f bound p found mode h.size at same x none exact below above h.has_size in
    let other : h.bound_parts ≡ p = parts_unique r bound h.bound_parts p h.bound_numeral.beginning at.beginning in
    let here : IsAtMost (error_size m f 1) m = subst (λ (k : Parts). IsAtMost (error_size m f 1) (magnitude r k)) other (subst (λ (z : Fraction). IsAtMost z (magnitude r h.bound_parts)) size h.at_most) in
    half_within r f bound p at (missing_within m f (magnitude_pos r p) (below_ulp r f p found same x none) here)

pub itself_above : (r : Radix) (f : ℕ) (bound : List ℕ) (p : Parts) (found : ReadNumber) (mode : ReadMode) → HasNumeral r bound p → found.format.frac ≡ f → (x : IsReading TowardsZero r p found) → (found.low ≡ 0) × (found.has_high_bits ≡ false) → found.exact ≡ false
    → (found.negative ≡ true → mode ≡ Floor) → (found.negative ≡ false → mode ≡ Ceil) → HasErrorAbove mode r f bound bound → IsHalfWithin r f bound → ⊥
itself_above r f bound p found mode at same x none exact below above h =
    let m = magnitude r p in
    let size : h.size ≡ error_size m f 1 = size_of r f bound p found mode h.size at same x none exact below above h.has_size in
    let other : h.bound_parts ≡ p = parts_unique r bound h.bound_parts p h.bound_numeral.beginning at.beginning in
    let here : IsLess m (error_size m f 1) = subst (λ (k : Parts). IsLess (magnitude r k) (error_size m f 1)) other (subst (λ (z : Fraction). IsLess (magnitude r h.bound_parts) z) size h.above) in
    half_above r f bound p at (missing_above m f (below_ulp r f p found same x none) here)

-- ---- before the first line
pub list_within : (range : Bool) (r : Radix) (f : ℕ) (bound : List ℕ) → range ≡ false → IsErrorWithin range r f bound []
list_within range r f bound is = subst (λ b. IsErrorWithin b r f bound []) (sym is) tt

pub range_within : (range : Bool) (r : Radix) (f : ℕ) (bound : List ℕ) → range ≡ true → IsHalfWithin r f bound → IsErrorWithin range r f bound []
range_within range r f bound is h = subst (λ b. IsErrorWithin b r f bound []) (sym is) h

pub range_not : (range : Bool) (r : Radix) (f : ℕ) (bound : List ℕ) → range ≡ true → ¬ IsHalfWithin r f bound → ¬ IsErrorWithin range r f bound []
range_not range r f bound is not h = not (subst (λ b. IsErrorWithin b r f bound []) is h)
