-- The float nearest to a magnitude.
use Rattle.std.proofs.Common.{◌≡◌, ◌≢◌, ℕ, zero, suc, ◌+◌, ◌-◌, ◌*◌, ◌/◌, ◌%◌, ◌^◌, ◌<◌, ◌≤◌, ◌==◌, Bool, true, false, if◌then◌else◌, refl, sym, ap, subst, ◌∙◌, arith, ⊎_elim, mul-le-mul_right, div-add-mod'}
use Rattle.std.proofs.Math.Dec.{eqb-suc-zero}
use Rattle.std.proofs.Math.Nat.{eq_of_mul-eq-mul_right, mod-lt, pow-le-pow_right}
use Rattle.std.proofs.lemmas.Bool.{cases_lt}
use Rattle.std.proofs.lemmas.Nat.{pow_pos, pow-add}
use Rattle.fixed_bits.specs.Nearest.{IsEven, IsNearest, distance}
use Rattle.fixed_float.specs.Floats.{IsFinite, exponent_bits, exponent_field, fraction_bits, fraction_field, is_negative, magnitude, precision, scale, significand, unit_scale}
use Rattle.fixed_float.specs.Inner.Fields.{HasLength, IsMagnitudeFloat, IsSignificand}
use Rattle.fixed_float.specs.Nearest.{IsNearestMagnitude}
use Rattle.fixed_float.specs.declared.layout.FloatLayout.{FloatLayout}
use Rattle.fixed_float.specs.declared.layout.FloatLayout.TheVariants.{Binary32, Binary64}

-- ---- powers of two
joined : (m e f : ℕ) → m * 2 ^ e * 2 ^ f ≡ m * 2 ^ (e + f)
joined m e f = omega (arith, ap (λ x. m * x) (pow-add 2 e f))

split : (m a d b : ℕ) → d + b ≡ a → m * 2 ^ a ≡ m * 2 ^ d * 2 ^ b
split m a d b e = ap (λ x. m * 2 ^ x) (sym e) ∙ sym (joined m d b)

-- ---- distances
apart_below : (a d t : ℕ) → distance (a * t) ((a + d) * t) ≡ d * t
apart_below a d t = omega arith

apart_above : (a d t : ℕ) → distance ((a + d) * t) (a * t) ≡ d * t
apart_above a d t = omega arith

distance_times : (a b t : ℕ) → distance (a * t) (b * t) ≡ distance a b * t
distance_times a b t = ⊎_elim
    (λ (l : a < b). let e : a + (b - a) ≡ b = omega arith in let d : distance a b ≡ b - a = omega arith in subst (λ (x : ℕ). distance (a * t) (x * t) ≡ distance a b * t) e (apart_below a (b - a) t ∙ ap (λ x. x * t) (sym d)))
    (λ (l : b ≤ a). let e : b + (a - b) ≡ a = omega arith in let d : distance a b ≡ a - b = omega arith in subst (λ (x : ℕ). distance (x * t) (b * t) ≡ distance a b * t) e (apart_above b (a - b) t ∙ ap (λ x. x * t) (sym d)))
    (cases_lt a b)

-- no multiple of u is nearer to a than q * u; if another one is as near, q is even
module _ (a u q : ℕ) (h : IsNearest a u q) where
  apart : (j k : ℕ) → j < k → j * u + u ≤ k * u
  apart j k l = let more : (j + 1) * u ≤ k * u = mul-le-mul_right u (omega arith) in omega arith

  pub no_nearer : (k : ℕ) → distance a (q * u) ≤ distance a (k * u)
  no_nearer k = ⊎_elim
      (λ (l : k < q). let gap = apart k q l in let near = h.near in omega arith)
      (λ (l : q ≤ k). ⊎_elim
      (λ (m : q < k). let gap = apart q k m in let near = h.near in omega arith)
      (λ (m : k ≤ q). let e : q ≡ k = omega arith in subst (λ (x : ℕ). distance a (q * u) ≤ distance a (x * u)) e (omega arith))
      (cases_lt q k))
      (cases_lt k q)

  pub as_near : (k : ℕ) → k ≢ q → distance a (q * u) ≡ distance a (k * u) → IsEven q
  as_near k differs e = h.tie (⊎_elim
      (λ (l : k < q). let gap = apart k q l in let near = h.near in omega arith)
      (λ (l : q ≤ k). let m : q < k = omega arith in let gap = apart q k m in let near = h.near in omega arith)
      (cases_lt k q))

-- ---- the fields of a float's bits
positive : (n : ℕ) → 0 < n → (n == 0) ≡ false
positive zero h = absurd (omega arith)
positive (suc n) h = eqb-suc-zero n

few_bits : (layout : FloatLayout) (bits : ℕ) → significand layout bits < 2 ^ precision layout
few_bits layout bits = below (exponent_field layout bits == 0)
  where
    rest : fraction_field layout bits < 2 ^ fraction_bits layout
    rest = mod-lt bits (pow_pos (fraction_bits layout))

    twice : 2 ^ precision layout ≡ 2 ^ fraction_bits layout * 2
    twice = pow-add 2 (fraction_bits layout) 1

    below : (b : Bool) → (if b then 0 else 2 ^ fraction_bits layout) + fraction_field layout bits < 2 ^ precision layout
    below true = omega (arith, rest, twice)
    below false = omega (arith, rest, twice)

-- a magnitude of `len` bits over 2^f has the scale x with x + f = lowest + len, which is that of a normal float
abbrev lowest : FloatLayout → ℕ
lowest layout = 2 ^ (exponent_bits layout - 1) - 2

some_scale : (layout : FloatLayout) (x f len : ℕ) → x + f ≡ lowest layout + len → f ≤ 64 → 0 < x
some_scale Binary32 x f len e few = omega arith
some_scale Binary64 x f len e few = omega arith

top_scale : (layout : FloatLayout) (x f len : ℕ) → x + f ≡ lowest layout + len → len ≤ 64 → x + 1 < 2 ^ exponent_bits layout - 1
top_scale Binary32 x f len e few = omega arith
top_scale Binary64 x f len e few = omega arith

scale_of : (layout : FloatLayout) (f len : ℕ) → f ≤ 64 → (lowest layout + len - f) + f ≡ lowest layout + len
scale_of Binary32 f len few = omega arith
scale_of Binary64 f len few = omega arith

-- `bits` consist of the sign s, the exponent e and the fraction r
abbrev AreParts : FloatLayout → ℕ → ℕ → ℕ → ℕ → Type 0
AreParts layout bits s e r = bits ≡ (s * 2 ^ exponent_bits layout + e) * 2 ^ fraction_bits layout + r

parts_of : (layout : FloatLayout) (bits s part f x len q r d : ℕ) → bits ≡ s * 2 ^ (fraction_bits layout + exponent_bits layout) + part
    → part + f * 2 ^ fraction_bits layout ≡ (2 ^ (exponent_bits layout - 1) - 3 + len) * 2 ^ fraction_bits layout + q
    → x + f ≡ lowest layout + len → 0 < x → q ≡ (1 + d) * 2 ^ fraction_bits layout + r → AreParts layout bits s (x + d) r
parts_of Binary32 bits s part f x len q r d sum are x_is some q_is = omega arith
parts_of Binary64 bits s part f x len q r d sum are x_is some q_is = omega arith

exponent_is : (layout : FloatLayout) (bits s e r : ℕ) → AreParts layout bits s e r → e < 2 ^ exponent_bits layout - 1 → r < 2 ^ fraction_bits layout → exponent_field layout bits ≡ e
exponent_is Binary32 bits s e r sum top low = omega arith
exponent_is Binary64 bits s e r sum top low = omega arith

fraction_is : (layout : FloatLayout) (bits s e r : ℕ) → AreParts layout bits s e r → r < 2 ^ fraction_bits layout → fraction_field layout bits ≡ r
fraction_is Binary32 bits s e r sum low = omega arith
fraction_is Binary64 bits s e r sum low = omega arith

sign_is : (layout : FloatLayout) (bits s e r : ℕ) → AreParts layout bits s e r → e < 2 ^ exponent_bits layout - 1 → r < 2 ^ fraction_bits layout → s < 2 → is_negative layout bits ≡ (s == 1)
sign_is Binary32 bits s e r sum top low one = ap (λ x. x == 1) (omega arith)
sign_is Binary64 bits s e r sum top low one = ap (λ x. x == 1) (omega arith)

module _ (layout : FloatLayout) (bits s e r : ℕ) (sum : AreParts layout bits s e r) (some : 0 < e) (top : e < 2 ^ exponent_bits layout - 1) (low : r < 2 ^ fraction_bits layout) where
  finite_is : IsFinite layout bits
  finite_is = subst (λ (x : ℕ). x < 2 ^ exponent_bits layout - 1) (sym (exponent_is layout bits s e r sum top low)) top

  zero_not : (exponent_field layout bits == 0) ≡ false
  zero_not = positive (exponent_field layout bits) (subst (λ (x : ℕ). 0 < x) (sym (exponent_is layout bits s e r sum top low)) some)

  significand_is : significand layout bits ≡ 2 ^ fraction_bits layout + r
  significand_is = rw zero_not (ap (λ x. 2 ^ fraction_bits layout + x) (fraction_is layout bits s e r sum low))

  scale_is : scale layout bits ≡ e
  scale_is = rw zero_not (exponent_is layout bits s e r sum top low)

-- the bits, of either sign, are those of a finite float of the size q * 2 ^ exponent, and q is m rounded
pub record Shown (layout : FloatLayout) (m f bits : ℕ) : Type 0 where
  pub finite : IsFinite layout bits
  pub length : ℕ
  pub has_length : HasLength m length
  pub q : ℕ
  pub rounded : IsSignificand (precision layout) m length q
  pub exponent : ℕ
  pub exponent_is : exponent + f ≡ lowest layout + length
  pub value : significand layout bits * 2 ^ scale layout bits ≡ q * 2 ^ exponent
  pub even : IsEven q → IsEven (significand layout bits)

doubled : (h a b : ℕ) → b ≡ a * 2 → h * b ≡ h * 2 * a
doubled h a b e = let g : h * b ≡ h * (a * 2) = ap (λ i. h * i) e in omega (arith, g)

even_half : (layout : FloatLayout) → 2 ^ fraction_bits layout % 2 ≡ 0
even_half Binary32 = refl
even_half Binary64 = refl

pub shown : (layout : FloatLayout) (m f part s bits : ℕ) → IsMagnitudeFloat layout m f part → f ≤ 64 → s < 2 → bits ≡ s * 2 ^ (fraction_bits layout + exponent_bits layout) + part → Shown layout m f bits × (is_negative layout bits ≡ (s == 1))
shown layout m f part s bits d few one sum = ⊎_elim carried plain (cases_lt d.significand (2 ^ precision layout))
  where
    half : ℕ
    half = 2 ^ fraction_bits layout

    twice : 2 ^ precision layout ≡ half * 2
    twice = pow-add 2 (fraction_bits layout) 1

    len : d.length ≤ 64
    len = d.has_length.most

    least : half ≤ d.significand
    least = let e : precision layout - 1 ≡ fraction_bits layout = omega arith in subst (λ (i : ℕ). 2 ^ i ≤ d.significand) e d.rounded.least

    most : d.significand ≤ 2 ^ precision layout
    most = d.rounded.most

    x : ℕ
    x = lowest layout + d.length - f

    x_is : x + f ≡ lowest layout + d.length
    x_is = scale_of layout f d.length few

    some : 0 < x
    some = some_scale layout x f d.length x_is few

    top : x + 1 < 2 ^ exponent_bits layout - 1
    top = top_scale layout x f d.length x_is len

    carried : d.significand < 2 ^ precision layout → Shown layout m f bits × (is_negative layout bits ≡ (s == 1))
    carried l =
        let r : ℕ = d.significand - half in
        let whole : d.significand ≡ (1 + 0) * half + r = omega (arith, least) in
        let none : x + 0 ≡ x = omega arith in
        let fields : AreParts layout bits s x r = subst (λ (n : ℕ). AreParts layout bits s n r) none (parts_of layout bits s part f x d.length d.significand r 0 sum d.bits_are x_is some whole) in
        let below : x < 2 ^ exponent_bits layout - 1 = omega (arith, top) in
        let low : r < half = omega (arith, l, least, twice) in
        let sig : significand layout bits ≡ d.significand = significand_is layout bits s x r fields some below low ∙ omega (arith, least) in (
          record {
            finite = finite_is layout bits s x r fields some below low;
            length = d.length;
            has_length = d.has_length;
            q = d.significand;
            rounded = d.rounded;
            exponent = x;
            exponent_is = x_is;
            value = rw (sig, scale_is layout bits s x r fields some below low) refl;
            even = λ e. ap (λ n. n % 2) sig ∙ e;
          },
          sign_is layout bits s x r fields below low one,
        )

    plain : 2 ^ precision layout ≤ d.significand → Shown layout m f bits × (is_negative layout bits ≡ (s == 1))
    plain l =
        let q_is : d.significand ≡ half * 2 = omega (arith, most, twice, l) in
        let whole : d.significand ≡ (1 + 1) * half + 0 = omega (arith, q_is) in
        let fields : AreParts layout bits s (x + 1) 0 = parts_of layout bits s part f x d.length d.significand 0 1 sum d.bits_are x_is some whole in
        let more : 0 < x + 1 = omega arith in
        let low : 0 < half = pow_pos (fraction_bits layout) in
        let sig : significand layout bits ≡ half = significand_is layout bits s (x + 1) 0 fields more top low ∙ omega arith in
        let grown : 2 ^ (x + 1) ≡ 2 ^ x * 2 = pow-add 2 x 1 in (
          record {
            finite = finite_is layout bits s (x + 1) 0 fields more top low;
            length = d.length;
            has_length = d.has_length;
            q = d.significand;
            rounded = d.rounded;
            exponent = x;
            exponent_is = x_is;
            value = rw (sig, scale_is layout bits s (x + 1) 0 fields more top low, q_is) (doubled half (2 ^ x) (2 ^ (x + 1)) grown);
            even = λ e. ap (λ n. n % 2) sig ∙ even_half layout;
          },
          sign_is layout bits s (x + 1) 0 fields top low one,
        )

-- ---- the length of a magnitude in bits, and its significand
pub has_length : (m j : ℕ) → 2 ^ j ≤ m → m < 2 ^ suc j → suc j ≤ 64 → HasLength m (suc j)
has_length m j l h few = record {
  some = omega arith;
  most = few;
  low = let e : j ≡ suc j - 1 = omega arith in subst (λ (x : ℕ). 2 ^ x ≤ m) e l;
  high = h;
}

pub grown_is : (p m len : ℕ) → p ≤ 53 → HasLength m len → len ≤ p → IsSignificand p m len (m * 2 ^ (p - len) % 2 ^ 64)
grown_is p m len most h short =
    let k : ℕ = p - len in
    let some = h.some in
    let fewer : (len - 1) + k ≡ p - 1 = omega arith in
    let all : len + k ≡ p = omega arith in
    let up : 2 ^ (len - 1) * 2 ^ k ≡ 2 ^ (p - 1) = sym (pow-add 2 (len - 1) k) ∙ ap (λ x. 2 ^ x) fewer in
    let over : 2 ^ len * 2 ^ k ≡ 2 ^ p = sym (pow-add 2 len k) ∙ ap (λ x. 2 ^ x) all in
    let low : 2 ^ (len - 1) * 2 ^ k ≤ m * 2 ^ k = mul-le-mul_right (2 ^ k) h.low in
    let next : (m + 1) * 2 ^ k ≤ 2 ^ len * 2 ^ k = mul-le-mul_right (2 ^ k) (let high = h.high in omega arith) in
    let unit = pow_pos k in
    let bound : 2 ^ p ≤ 2 ^ 53 = pow-le-pow_right {n = 2} (omega arith) {i = p} {j = 53} most in
    let same : m * 2 ^ k % 2 ^ 64 ≡ m * 2 ^ k = omega (arith, over, next, bound, unit) in
    subst (λ (x : ℕ). IsSignificand p m len x) (sym same) (record {
      least = omega (arith, up, low);
      most = omega (arith, over, next);
      short = λ l. refl;
      long = λ l. absurd (omega arith);
    })

pub rounded_is : (p m len more : ℕ) → 2 ≤ p → HasLength m len → p < len → IsNearest (m / 2 ^ (len - p) * 2 ^ (len - p) + m % 2 ^ (len - p)) (2 ^ (len - p)) (m / 2 ^ (len - p) + more) → more ≤ 1 → IsSignificand p m len (m / 2 ^ (len - p) + more)
rounded_is p m len more two h long nearest few = parts (2 ^ (len - p)) (m / 2 ^ (len - p)) (m % 2 ^ (len - p)) (div-add-mod' m (2 ^ (len - p))) (mod-lt m (pow_pos (len - p)))
    (let all : (p - 1) + (len - p) ≡ len - 1 = omega arith in sym (pow-add 2 (p - 1) (len - p)) ∙ ap (λ x. 2 ^ x) all) (let all : p + (len - p) ≡ len = omega arith in sym (pow-add 2 p (len - p)) ∙ ap (λ x. 2 ^ x) all)
    (subst (λ (x : ℕ). IsNearest x (2 ^ (len - p)) (m / 2 ^ (len - p) + more)) (div-add-mod' m (2 ^ (len - p))) nearest) refl
  where
    parts : (u w r : ℕ) → w * u + r ≡ m → r < u → 2 ^ (p - 1) * u ≡ 2 ^ (len - 1) → 2 ^ p * u ≡ 2 ^ len → IsNearest m u (w + more) → u ≡ 2 ^ (len - p) → IsSignificand p m len (w + more)
    parts u w r sum small least most near unit = record {
      least = ⊎_elim (λ (l : w < 2 ^ (p - 1)). absurd (let p : (w + 1) * u ≤ 2 ^ (p - 1) * u = mul-le-mul_right u (omega arith) in let low = h.low in omega (arith, p, least, sum, small))) (λ (l : 2 ^ (p - 1) ≤ w). omega arith) (cases_lt w (2 ^ (p - 1)));
      most = ⊎_elim (λ (l : w < 2 ^ p). omega arith) (λ (l : 2 ^ p ≤ w). absurd (let p : 2 ^ p * u ≤ w * u = mul-le-mul_right u l in let high = h.high in omega (arith, p, most, sum))) (cases_lt w (2 ^ p));
      short = λ l. absurd (omega arith);
      long = λ l. subst (λ (x : ℕ). IsNearest m x (w + more)) unit near;
    }

-- ---- multiples of a unit, and numbers below them
module _ (m u q t : ℕ) (some : 0 < t) (h : IsNearest m u q) where
  nearer : (k : ℕ) → distance (m * t) (q * u * t) ≤ distance (m * t) (k * u * t)
  nearer k = subst (λ (x : ℕ). x ≤ distance (m * t) (k * u * t)) (sym (distance_times m (q * u) t)) (subst (λ (x : ℕ). distance m (q * u) * t ≤ x) (sym (distance_times m (k * u) t)) (mul-le-mul_right t (no_nearer m u q h k)))

  tied : (k : ℕ) → k ≢ q → distance (m * t) (q * u * t) ≡ distance (m * t) (k * u * t) → IsEven q
  tied k differs e = as_near m u q h k differs (eq_of_mul-eq-mul_right t some (distance m (q * u)) (distance m (k * u)) (sym (distance_times m (q * u) t) ∙ e ∙ distance_times m (k * u) t))

  farther : (c z : ℕ) → c * u ≤ m → z < c * u * t → distance (m * t) (q * u * t) < distance (m * t) z
  farther c z low below = beyond (m * t) (c * u * t) z (distance (m * t) (q * u * t)) (mul-le-mul_right t low) below (nearer c)
    where
      beyond : (a b z d : ℕ) → b ≤ a → z < b → d ≤ distance a b → d < distance a z
      beyond a b z d l k e = omega arith

-- ---- the nearest of all finite floats
-- t is the denominator of every float
module _ (p m f x len q t : ℕ) (two : 2 ≤ p) (some : 0 < t) (has : HasLength m len) (is : IsSignificand p m len q) (place : 2 ^ p * (2 ^ x * 2 ^ f) ≡ 2 ^ len * t) where
  -- a magnitude of at most p bits is exact
  module _ (short : len ≤ p) where
    same : q * 2 ^ x * 2 ^ f ≡ m * t
    same =
        let e = is.short short in
        let all : len + (p - len) ≡ p = omega arith in
        let over : 2 ^ len * 2 ^ (p - len) ≡ 2 ^ p = sym (pow-add 2 len (p - len)) ∙ ap (λ i. 2 ^ i) all in
        eq_of_mul-eq-mul_right (2 ^ len) (pow_pos len) (q * 2 ^ x * 2 ^ f) (m * t) (swapped q (2 ^ (p - len)) (2 ^ len) (2 ^ x) (2 ^ f) e over place)
      where
        swapped : (q g l a b : ℕ) → q ≡ m * g → l * g ≡ 2 ^ p → 2 ^ p * (a * b) ≡ l * t → q * a * b * l ≡ m * t * l
        swapped q g l a b e over unit =
            let one : q * a * b * l ≡ m * g * a * b * l = ap (λ i. i * a * b * l) e in
            let two : m * g * a * b * l ≡ l * g * (a * b) * m = omega arith in
            let three : l * g * (a * b) * m ≡ 2 ^ p * (a * b) * m = ap (λ i. i * (a * b) * m) over in
            let four : 2 ^ p * (a * b) * m ≡ l * t * m = ap (λ i. i * m) unit in
            let five : l * t * m ≡ m * t * l = omega arith in
            one ∙ two ∙ three ∙ four ∙ five

  -- a longer magnitude is rounded
  module _ (long : p < len) where
    unit : 2 ^ x * 2 ^ f ≡ 2 ^ (len - p) * t
    unit =
        let all : len ≡ p + (len - p) = omega arith in
        let over : 2 ^ len ≡ 2 ^ p * 2 ^ (len - p) = ap (λ i. 2 ^ i) all ∙ pow-add 2 p (len - p) in
        eq_of_mul-eq-mul_right (2 ^ p) (pow_pos p) (2 ^ x * 2 ^ f) (2 ^ (len - p) * t) (turned (2 ^ x * 2 ^ f) (2 ^ (len - p)) (2 ^ len) over place)
      where
        turned : (w u l : ℕ) → l ≡ 2 ^ p * u → 2 ^ p * w ≡ l * t → w * 2 ^ p ≡ u * t * 2 ^ p
        turned w u l e k = let g : l * t ≡ 2 ^ p * u * t = ap (λ i. i * t) e in omega arith

    own : q * 2 ^ x * 2 ^ f ≡ q * 2 ^ (len - p) * t
    own = regrouped q (2 ^ x) (2 ^ f) (2 ^ (len - p)) t unit
      where
        regrouped : (q a b u t : ℕ) → a * b ≡ u * t → q * a * b ≡ q * u * t
        regrouped q a b u t e = let g : q * (a * b) ≡ q * (u * t) = ap (λ i. q * i) e in omega arith

    -- a float of the same scale or a greater one is a multiple of the unit
    multiple : (w v : ℕ) → x ≤ v → w * 2 ^ v * 2 ^ f ≡ w * 2 ^ (v - x) * 2 ^ (len - p) * t
    multiple w v l = let all : v ≡ (v - x) + x = omega arith in regrouped w (2 ^ v) (2 ^ (v - x)) (2 ^ x) (2 ^ f) (2 ^ (len - p)) (ap (λ i. 2 ^ i) all ∙ pow-add 2 (v - x) x) unit
      where
        regrouped : (w p g a b u : ℕ) → p ≡ g * a → a * b ≡ u * t → w * p * b ≡ w * g * u * t
        regrouped w p g a b u e d = let one : w * p * b ≡ w * (g * a) * b = ap (λ i. w * i * b) e in let two : w * g * (a * b) ≡ w * g * (u * t) = ap (λ i. w * g * i) d in omega arith

    -- a float of a lesser scale is below 2^(len - 1), the least magnitude of this length
    below : (w v : ℕ) → w < 2 ^ p → v < x → w * 2 ^ v * 2 ^ f < 2 ^ (p - 1) * 2 ^ (len - p) * t
    below w v few l = bound (2 ^ v) (2 ^ x) (2 ^ f) (2 ^ (len - p)) (pow_pos v) (pow_pos f) (let p : 2 ^ (v + 1) ≤ 2 ^ x = pow-le-pow_right {n = 2} (omega arith) {i = v + 1} {j = x} (omega arith) in let e : 2 ^ (v + 1) ≡ 2 ^ v * 2 = pow-add 2 v 1 in omega arith) unit
      where
        twice : 2 ^ p ≡ 2 ^ (p - 1) * 2
        twice = let all : p ≡ (p - 1) + 1 = omega arith in ap (λ i. 2 ^ i) all ∙ pow-add 2 (p - 1) 1

        bound : (y a b u : ℕ) → 0 < y → 0 < b → 2 * y ≤ a → a * b ≡ u * t → w * y * b < 2 ^ (p - 1) * u * t
        bound y a b u y_some b_some d e =
            let h : ℕ = 2 ^ (p - 1) in
            let product : 1 * 1 ≤ y * b = mul-le-mul y b (omega arith) (omega arith) in
            let few_more : w + 1 ≤ h * 2 = omega (arith, few, twice) in
            let one : (w + 1) * (y * b) ≤ h * 2 * (y * b) = mul-le-mul_right (y * b) few_more in
            let two : 2 * y * b ≤ a * b = mul-le-mul_right b d in
            let more : 2 * y * b * h ≤ a * b * h = mul-le-mul_right h two in
            let three : h * (a * b) ≡ h * (u * t) = ap (λ i. h * i) e in
            omega (arith, product, one, more, three)
          where
            mul-le-mul : (y b : ℕ) → 1 ≤ y → 1 ≤ b → 1 * 1 ≤ y * b
            mul-le-mul y b g h = let z : 1 * b ≤ y * b = mul-le-mul_right b g in omega arith

    least : 2 ^ (p - 1) * 2 ^ (len - p) ≤ m
    least = let all : (p - 1) + (len - p) ≡ len - 1 = omega arith in let e : 2 ^ (p - 1) * 2 ^ (len - p) ≡ 2 ^ (len - 1) = sym (pow-add 2 (p - 1) (len - p)) ∙ ap (λ i. 2 ^ i) all in let low = has.low in omega arith

  pub is_nearest : (w v : ℕ) → w < 2 ^ p → distance (m * t) (q * 2 ^ x * 2 ^ f) ≤ distance (m * t) (w * 2 ^ v * 2 ^ f)
  is_nearest w v few = ⊎_elim
      (λ (long : p < len). rw (own long) (⊎_elim
      (λ (l : v < x). let far = farther m (2 ^ (len - p)) q t some (is.long long) (2 ^ (p - 1)) (w * 2 ^ v * 2 ^ f) (least long) (below long w v few l) in omega (arith, far))
      (λ (l : x ≤ v). rw (multiple long w v l) (nearer m (2 ^ (len - p)) q t some (is.long long) (w * 2 ^ (v - x))))
      (cases_lt v x)))
      (λ (short : len ≤ p). rw (same short) (omega arith))
      (cases_lt p len)

  pub is_tie : (w v : ℕ) → w < 2 ^ p → distance (m * t) (q * 2 ^ x * 2 ^ f) ≡ distance (m * t) (w * 2 ^ v * 2 ^ f) → w * 2 ^ v ≢ q * 2 ^ x → IsEven q
  is_tie w v few e differs = ⊎_elim
      (λ (long : p < len). let there = rw (own long) at e in ⊎_elim
      (λ (l : v < x). absurd (let far = farther m (2 ^ (len - p)) q t some (is.long long) (2 ^ (p - 1)) (w * 2 ^ v * 2 ^ f) (least long) (below long w v few l) in omega (arith, far, there)))
      (λ (l : x ≤ v).
      let scaled : w * 2 ^ v ≡ w * 2 ^ (v - x) * 2 ^ x = split w v (v - x) x (omega arith) in
      tied m (2 ^ (len - p)) q t some (is.long long) (w * 2 ^ (v - x)) (λ k. differs (scaled ∙ ap (λ i. i * 2 ^ x) k)) (rw (multiple long w v l) at there))
      (cases_lt v x))
      (λ (short : len ≤ p).
      let none : distance (m * t) (q * 2 ^ x * 2 ^ f) ≡ 0 = rw (same short) (omega arith) in
      let equal : w * 2 ^ v * 2 ^ f ≡ q * 2 ^ x * 2 ^ f = sym (same short ∙ apart_none (m * t) (w * 2 ^ v * 2 ^ f) (sym e ∙ none)) in
      absurd (differs (eq_of_mul-eq-mul_right (2 ^ f) (pow_pos f) (w * 2 ^ v) (q * 2 ^ x) equal)))
      (cases_lt p len)
    where
      apart_none : (a b : ℕ) → distance a b ≡ 0 → a ≡ b
      apart_none a b e = omega arith

-- ---- the float of a magnitude
scales : (layout : FloatLayout) (x f len : ℕ) → x + f ≡ lowest layout + len → precision layout + (x + f) ≡ len + unit_scale layout
scales Binary32 x f len e = omega arith
scales Binary64 x f len e = omega arith

unit_is : (layout : FloatLayout) (x f len : ℕ) → x + f ≡ lowest layout + len → 2 ^ precision layout * (2 ^ x * 2 ^ f) ≡ 2 ^ len * 2 ^ unit_scale layout
unit_is layout x f len e = ap (λ i. 2 ^ precision layout * i) (sym (pow-add 2 x f)) ∙ sym (pow-add 2 (precision layout) (x + f)) ∙ ap (λ i. 2 ^ i) (scales layout x f len e) ∙ pow-add 2 len (unit_scale layout)

several : (layout : FloatLayout) → 2 ≤ precision layout
several Binary32 = omega arith
several Binary64 = omega arith

pub nearest_is : (layout : FloatLayout) (m f bits : ℕ) → Shown layout m f bits → IsNearestMagnitude layout (record { num = m; den = 2 ^ f }) bits
unfolding magnitude
nearest_is layout m f bits h =
    let unit = unit_is layout h.exponent f h.length h.exponent_is in
    let t : ℕ = 2 ^ unit_scale layout in
    let some : 0 < t = pow_pos (unit_scale layout) in record {
      finite = h.finite;
      nearest = λ other fin. rw h.value (is_nearest (precision layout) m f h.exponent h.length h.q t (several layout) some h.has_length h.rounded unit (significand layout other) (scale layout other) (few_bits layout other));
      tie = λ other fin e differs. h.even (is_tie (precision layout) m f h.exponent h.length h.q t (several layout) some h.has_length h.rounded unit (significand layout other) (scale layout other) (few_bits layout other) (rw h.value at e) (λ k. differs (k ∙ sym h.value)));
    }

pub exact_is : (layout : FloatLayout) (m f bits : ℕ) → Shown layout m f bits → m < 2 ^ precision layout → m * (magnitude layout bits).den ≡ (magnitude layout bits).num * 2 ^ f
unfolding magnitude
exact_is layout m f bits h few =
    let p : ℕ = precision layout in
    let unit = unit_is layout h.exponent f h.length h.exponent_is in
    let some : 0 < 2 ^ unit_scale layout = pow_pos (unit_scale layout) in
    let short : h.length ≤ p = ⊎_elim (λ (l : p < h.length). absurd (let within : p ≤ h.length - 1 = omega arith in let y : 2 ^ p ≤ 2 ^ (h.length - 1) = pow-le-pow_right {n = 2} (omega arith) {i = p} {j = h.length - 1} within in let low = h.has_length.low in omega arith)) (λ (l : h.length ≤ p). l) (cases_lt p h.length) in
    sym (rw h.value (same p m f h.exponent h.length h.q (2 ^ unit_scale layout) (several layout) some h.has_length h.rounded unit short))
