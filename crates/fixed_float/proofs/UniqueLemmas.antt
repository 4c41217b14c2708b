-- At most one float is nearest to a number: floats grow with their bits, and the parities of two neighbours differ.
use Rattle.std.proofs.Common.{◌≡◌, ℕ, zero, suc, ◌+◌, ◌-◌, ◌*◌, ◌/◌, ◌%◌, ◌^◌, ◌<◌, ◌≤◌, ◌==◌, Bool, true, false, if◌then◌else◌, refl, sym, ap, subst, ◌∙◌, arith, ⊎_elim, mul-le-mul_right, unsigned_abs}
use Rattle.std.proofs.Math.Dec.{eqb-suc-zero}
use Rattle.std.proofs.Math.Nat.{mod-lt}
use Rattle.std.proofs.lemmas.Bool.{cases_lt, false≢true}
use Rattle.std.proofs.lemmas.Nat.{pow_pos, pow-add}
use Rattle.fixed_bits.specs.Nearest.{distance}
use Rattle.fixed_float.specs.Floats.{IsFinite, bits_of_float, exponent_bits, exponent_field, fraction_bits, fraction_field, is_negative, magnitude, scale, significand, unit_scale}
use Rattle.fixed_float.specs.Laws.{NearestFloatIsTheOne}
use Rattle.fixed_float.specs.Nearest.{IsNearestMagnitude}
use Rattle.fixed_float.specs.declared.layout.FloatLayout.{FloatLayout}
use Rattle.fixed_float.specs.declared.layout.FloatLayout.TheVariants.{Binary32, Binary64}
use Rattle.fixed_numeral.specs.Value.{Fraction}

-- ---- a float and its successor
abbrev size : FloatLayout → ℕ → ℕ
size layout bits = significand layout bits * 2 ^ scale layout bits

-- the size of the float with exponent e and fraction r, if h is 2 ^ fraction_bits
abbrev sized : ℕ → ℕ → ℕ → ℕ
sized h e r = ((if e == 0 then 0 else h) + r) * 2 ^ (if e == 0 then 1 else e)

fraction_grows : (h e r : ℕ) → sized h e r < sized h e (suc r)
fraction_grows h zero r = omega arith
fraction_grows h (suc e) r = let some : 0 < 2 ^ suc e = pow_pos (suc e) in rw (eqb-suc-zero e) (omega (arith, some))

carried : (r a b : ℕ) → 0 < a → b ≡ a * 2 → (suc r + r) * a < (suc r + 0) * b
carried r a b some e = let g : (suc r + 0) * b ≡ (suc r + 0) * (a * 2) = ap (λ i. (suc r + 0) * i) e in omega (arith, some, g)

exponent_grows : (e r : ℕ) → sized (suc r) e r < sized (suc r) (suc e) 0
exponent_grows zero r = omega arith
exponent_grows (suc e) r =
    let some : 0 < 2 ^ suc e = pow_pos (suc e) in
    let all : suc (suc e) ≡ suc e + 1 = omega arith in
    let twice : 2 ^ suc (suc e) ≡ 2 ^ suc e * 2 = ap (λ i. 2 ^ i) all ∙ pow-add 2 (suc e) 1 in
    let plain : (suc r + r) * 2 ^ suc e < (suc r + 0) * 2 ^ suc (suc e) = carried r (2 ^ suc e) (2 ^ suc (suc e)) some twice in
    rw (eqb-suc-zero e, eqb-suc-zero (suc e)) plain

-- the bits above the exponent: the sign
abbrev above : FloatLayout → ℕ → ℕ
above layout bits = bits / 2 ^ (fraction_bits layout + exponent_bits layout)

same_exponent : (layout : FloatLayout) (n : ℕ) → suc (fraction_field layout n) < 2 ^ fraction_bits layout → exponent_field layout (suc n) ≡ exponent_field layout n
same_exponent Binary32 n l = omega arith
same_exponent Binary64 n l = omega arith

next_fraction : (layout : FloatLayout) (n : ℕ) → suc (fraction_field layout n) < 2 ^ fraction_bits layout → fraction_field layout (suc n) ≡ suc (fraction_field layout n)
next_fraction Binary32 n l = omega arith
next_fraction Binary64 n l = omega arith

next_exponent : (layout : FloatLayout) (n : ℕ) → above layout (suc n) ≡ above layout n → 2 ^ fraction_bits layout ≤ suc (fraction_field layout n) → exponent_field layout (suc n) ≡ suc (exponent_field layout n)
next_exponent Binary32 n same l = omega arith
next_exponent Binary64 n same l = omega arith

no_fraction : (layout : FloatLayout) (n : ℕ) → 2 ^ fraction_bits layout ≤ suc (fraction_field layout n) → fraction_field layout (suc n) ≡ 0
no_fraction Binary32 n l = omega arith
no_fraction Binary64 n l = omega arith

size_is : (layout : FloatLayout) (n e r : ℕ) → exponent_field layout n ≡ e → fraction_field layout n ≡ r → size layout n ≡ sized (2 ^ fraction_bits layout) e r
size_is layout n e r exponent fraction = rw (exponent, fraction) refl

pub next_grows : (layout : FloatLayout) (n : ℕ) → above layout (suc n) ≡ above layout n → size layout n < size layout (suc n)
next_grows layout n same = ⊎_elim
    (λ (l : suc r < h). subst (λ (x : ℕ). size layout n < x) (sym (size_is layout (suc n) e (suc r) (same_exponent layout n l) (next_fraction layout n l))) (fraction_grows h e r))
    (λ (l : h ≤ suc r).
    let full : h ≡ suc r = omega (arith, mod-lt n (pow_pos (fraction_bits layout))) in
    let grows : sized h e r < sized h (suc e) 0 = subst (λ (x : ℕ). sized x e r < sized x (suc e) 0) (sym full) (exponent_grows e r) in
    subst (λ (x : ℕ). size layout n < x) (sym (size_is layout (suc n) (suc e) 0 (next_exponent layout n same l) (no_fraction layout n l))) grows)
    (cases_lt (suc r) h)
  where
    h : ℕ
    h = 2 ^ fraction_bits layout

    e : ℕ
    e = exponent_field layout n

    r : ℕ
    r = fraction_field layout n

-- ---- floats of one sign
between : (layout : FloatLayout) (x n y : ℕ) → above layout x ≡ above layout y → x ≤ n → n ≤ y → above layout n ≡ above layout x
between Binary32 x n y same l m = omega arith
between Binary64 x n y same l m = omega arith

to_next : (layout : FloatLayout) (n y : ℕ) → suc n ≡ y → above layout y ≡ above layout n → size layout n < size layout y
to_next layout n y next same = subst (λ (k : ℕ). size layout n < size layout k) next (next_grows layout n (subst (λ (k : ℕ). above layout k ≡ above layout n) (sym next) same))

grows_by : (layout : FloatLayout) (x k y : ℕ) → suc k + x ≡ y → above layout x ≡ above layout y → size layout x < size layout y
grows_by layout x zero y sum same = to_next layout x y (omega (arith, sum)) (sym same)
grows_by layout x (suc k) y sum same =
    let n : ℕ = y - 1 in
    let next : suc n ≡ y = omega (arith, sum) in
    let mid : above layout n ≡ above layout x = between layout x n y same (omega (arith, sum)) (omega (arith, sum)) in
    let one = grows_by layout x k n (omega (arith, sum)) (sym mid) in
    let two = to_next layout n y next (sym same ∙ sym mid) in
    omega (arith, one, two)

grows : (layout : FloatLayout) (x y : ℕ) → above layout x ≡ above layout y → x < y → size layout x < size layout y
grows layout x y same l = grows_by layout x (y - suc x) y (omega (arith, l)) same

finite_below : (layout : FloatLayout) (n y : ℕ) → above layout n ≡ above layout y → n ≤ y → IsFinite layout y → IsFinite layout n
finite_below Binary32 n y same l h = omega arith
finite_below Binary64 n y same l h = omega arith

parity : (layout : FloatLayout) (n : ℕ) → significand layout n % 2 ≡ n % 2
parity Binary32 n = by (exponent_field Binary32 n == 0)
  where
    by : (b : Bool) → ((if b then 0 else 2 ^ 23) + n % 2 ^ 23) % 2 ≡ n % 2
    by true = omega arith
    by false = omega arith
parity Binary64 n = by (exponent_field Binary64 n == 0)
  where
    by : (b : Bool) → ((if b then 0 else 2 ^ 52) + n % 2 ^ 52) % 2 ≡ n % 2
    by true = omega arith
    by false = omega arith

-- ---- no number has two nearest floats
scaled : (a b d : ℕ) → 0 < d → a < b → a * d < b * d
scaled a b d some l = let more : suc a * d ≤ b * d = mul-le-mul_right d l in omega (arith, more, some)

apart : (z a c b : ℕ) → a < c → c < b → distance z a ≡ distance z b → distance z a ≤ distance z c → ⊥
apart z a c b l m same near = omega arith

pub no_other : (layout : FloatLayout) (number : Fraction) (x y : ℕ) → 0 < number.den → above layout x ≡ above layout y → x < y → IsNearestMagnitude layout number x → IsNearestMagnitude layout number y → ⊥
unfolding magnitude
no_other layout number x y some same less p q = ⊎_elim beyond neighbor (cases_lt (suc x) y)
  where
    z : ℕ
    z = number.num * 2 ^ unit_scale layout

    d : ℕ
    d = number.den

    alike : distance z (size layout x * d) ≡ distance z (size layout y * d)
    alike = let one = p.nearest y q.finite in let two = q.nearest x p.finite in omega (arith, one, two)

    differs : size layout x < size layout y
    differs = grows layout x y same less

    beyond : suc x < y → ⊥
    beyond l =
        let low : x ≤ suc x = omega arith in
        let high : suc x ≤ y = omega arith in
        let mid : above layout (suc x) ≡ above layout x = between layout x (suc x) y same low high in
        let finite : IsFinite layout (suc x) = finite_below layout (suc x) y (mid ∙ same) high q.finite in
        apart z (size layout x * d) (size layout (suc x) * d) (size layout y * d)
        (scaled (size layout x) (size layout (suc x)) d some (next_grows layout x mid))
        (scaled (size layout (suc x)) (size layout y) d some (grows layout (suc x) y (mid ∙ same) l)) alike (p.nearest (suc x) finite)

    neighbor : y ≤ suc x → ⊥
    neighbor l =
        let next : y ≡ suc x = omega arith in
        let even : significand layout x % 2 ≡ 0 = p.tie y q.finite alike (λ (e : size layout y ≡ size layout x). absurd (omega (arith, e, differs))) in
        let odd : significand layout y % 2 ≡ 0 = q.tie x p.finite (sym alike) (λ (e : size layout x ≡ size layout y). absurd (omega (arith, e, differs))) in
        omega (arith, next, even, odd, parity layout x, parity layout y)

-- ---- nor two of different signs
same_bit : (a b : ℕ) → a < 2 → b < 2 → (a == 1) ≡ (b == 1) → a ≡ b
same_bit zero zero l m e = refl
same_bit zero (suc zero) l m e = absurd (false≢true e)
same_bit (suc zero) zero l m e = absurd (false≢true (sym e))
same_bit (suc zero) (suc zero) l m e = refl
same_bit (suc (suc a)) b l m e = absurd (omega arith)
same_bit zero (suc (suc b)) l m e = absurd (omega arith)
same_bit (suc zero) (suc (suc b)) l m e = absurd (omega arith)

one_bit : (layout : FloatLayout) (x : ℕ) → x < 2 ^ bits_of_float layout → above layout x < 2
one_bit Binary32 x l = omega arith
one_bit Binary64 x l = omega arith

sign_above : (layout : FloatLayout) (x y : ℕ) → x < 2 ^ bits_of_float layout → y < 2 ^ bits_of_float layout → is_negative layout x ≡ is_negative layout y → above layout x ≡ above layout y
sign_above layout x y l m e =
    let u = one_bit layout x l in
    let v = one_bit layout y m in
    let a : above layout x % 2 ≡ above layout x = omega (arith, u) in
    let b : above layout y % 2 ≡ above layout y = omega (arith, v) in
    same_bit (above layout x) (above layout y) u v (ap (λ n. n == 1) (sym a) ∙ e ∙ ap (λ n. n == 1) b)

pub nearest_float_is_the_one : NearestFloatIsTheOne
nearest_float_is_the_one layout b f x y l m p q =
    let same : above layout x ≡ above layout y = sign_above layout x y l m (p.sign ∙ sym q.sign) in
    let number : Fraction = record { num = unsigned_abs b; den = 2 ^ f } in
    let some : 0 < 2 ^ f = pow_pos f in
    ⊎_elim
    (λ (less : x < y). absurd (no_other layout number x y some same less p.nearest q.nearest))
    (λ (no : y ≤ x). ⊎_elim
    (λ (less : y < x). absurd (no_other layout number y x some (sym same) less q.nearest p.nearest))
    (λ (other : x ≤ y). omega (arith, no, other))
    (cases_lt y x))
    (cases_lt x y)
