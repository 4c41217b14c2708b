-- The error of a numeral does not grow with the fraction length.
use Rattle.std.proofs.Common.{◌≡◌, ℕ, ◌+◌, ◌-◌, ◌*◌, ◌^◌, ◌<◌, ◌≤◌, refl, sym, ap, ◌∙◌, subst, arith, ⊎_elim, mul-le-mul_right}
use Rattle.std.proofs.lemmas.Bool.{cases_lt}
use Rattle.std.proofs.lemmas.Nat.{pow-add}
use Rattle.fixed_bits.specs.Nearest.{distance}
use Rattle.fixed_bits.specs.declared.mode.ReadMode.TheVariants.{NearestEven}
use Rattle.fixed_numeral.proofs.Public.{parts_unique}
use Rattle.fixed_numeral.specs.Value.{Fraction, magnitude}
use Rattle.fixed_read.proofs.Public.{read_number_is_the_one}
use Rattle.fixed_error.specs.ErrorSize.{HasErrorSize, IsAtMost, IsLess, error_size}
use Rattle.fixed_error.specs.Laws.{AboveNotWithin, ErrorNeverGrows, WithinEachLonger}
use Rattle.fixed_error.proofs.GreatestLemmas.{den_some, size_unique}
use Rattle.fixed_error.proofs.NearLemmas.{least_moved}

-- no multiple is closer than the nearest
nearest_least : (a b q w : ℕ) → 2 * distance a (q * b) ≤ b → distance a (q * b) ≤ distance a (w * b)
nearest_least a b q w near =
    ⊎_elim
    (λ (less : q < w). let m : (q + 1) * b ≤ w * b = mul-le-mul_right b (omega (arith, less)) in omega (arith, m, near))
    (λ (more : w ≤ q). ⊎_elim
    (λ (less : w < q). let m : (w + 1) * b ≤ q * b = mul-le-mul_right b (omega (arith, less)) in omega (arith, m, near))
    (λ (back : q ≤ w). let same : q ≡ w = omega (arith, more, back) in subst (λ x. distance a (q * b) ≤ distance a (x * b)) same (omega arith))
    (cases_lt w q))
    (cases_lt q w)

distance_times : (a x k : ℕ) → distance (a * k) (x * k) ≡ distance a x * k
distance_times a x k =
    ⊎_elim
    (λ (less : a < x).
    let e : x ≡ a + (x - a) = omega (arith, less) in
    let m : x * k ≡ (a + (x - a)) * k = ap (λ t. t * k) e in
    let d : distance a x ≡ x - a = omega (arith, less) in
    let n : distance a x * k ≡ (x - a) * k = ap (λ t. t * k) d in
    omega (arith, m, n))
    (λ (more : x ≤ a).
    let e : a ≡ x + (a - x) = omega (arith, more) in
    let m : a * k ≡ (x + (a - x)) * k = ap (λ t. t * k) e in
    let d : distance a x ≡ a - x = omega (arith, more) in
    let n : distance a x * k ≡ (a - x) * k = ap (λ t. t * k) d in
    omega (arith, m, n))
    (cases_lt a x)

smaller : (num den t k u v : ℕ) → 2 * distance (num * (t * k)) (v * den) ≤ den → distance (num * (t * k)) (v * den) * (t * den) ≤ distance (num * t) (u * den) * (t * k * den)
smaller num den t k u v near =
    let d : ℕ = distance (num * t) (u * den) in
    let e : distance (num * (t * k)) (u * k * den) ≡ d * k = grouped (num * (t * k)) (u * k * den) (omega arith) (omega arith) in
    let least : distance (num * (t * k)) (v * den) ≤ distance (num * (t * k)) (u * k * den) = nearest_least (num * (t * k)) den v (u * k) near in
    let m : distance (num * (t * k)) (v * den) * (t * den) ≤ d * k * (t * den) = mul-le-mul_right (t * den) (subst (λ x. distance (num * (t * k)) (v * den) ≤ x) e least) in
    regroup (distance (num * (t * k)) (v * den)) d m
  where
    grouped : (x y : ℕ) → x ≡ num * t * k → y ≡ u * den * k → distance x y ≡ distance (num * t) (u * den) * k
    grouped x y a b = ap (λ z. distance z y) a ∙ (ap (λ z. distance (num * t * k) z) b ∙ distance_times (num * t) (u * den) k)

    regroup : (x d : ℕ) → x * (t * den) ≤ d * k * (t * den) → x * (t * den) ≤ d * (t * k * den)
    regroup x d m = omega (arith, m)

pub error_never_grows : ErrorNeverGrows
error_never_grows r f g bytes a b order x y =
    let same : y.parts ≡ x.parts = parts_unique r bytes y.parts x.parts y.numeral.beginning x.numeral.beginning in
    let den : ℕ = (magnitude r y.parts).den in
    let num : ℕ = (magnitude r y.parts).num in
    let power : 2 ^ g ≡ 2 ^ f * 2 ^ (g - f) = (let e : g ≡ f + (g - f) = omega (arith, order) in ap (λ k. 2 ^ k) e) ∙ pow-add 2 f (g - f) in
    let near : 2 * distance (num * (2 ^ f * 2 ^ (g - f))) (y.read.ulps * den) ≤ den = subst (λ t. 2 * distance (num * t) (y.read.ulps * den) ≤ den) power y.read.rounded.near in
    let low : distance (num * (2 ^ f * 2 ^ (g - f))) (y.read.ulps * den) * (2 ^ f * den) ≤ distance (num * 2 ^ f) (x.read.ulps * den) * (2 ^ f * 2 ^ (g - f) * den) = smaller num den (2 ^ f) (2 ^ (g - f)) x.read.ulps y.read.ulps near in
    let P : ℕ → Type 0 = λ t. distance (num * t) (y.read.ulps * den) * (2 ^ f * den) ≤ distance (num * 2 ^ f) (x.read.ulps * den) * (t * den) in
    let known : IsAtMost (error_size (magnitude r y.parts) g y.read.ulps) (error_size (magnitude r y.parts) f x.read.ulps) = subst P (sym power) low in
    let moved : IsAtMost (error_size (magnitude r y.parts) g y.read.ulps) (error_size (magnitude r x.parts) f x.read.ulps) = subst (λ p. IsAtMost (error_size (magnitude r y.parts) g y.read.ulps) (error_size (magnitude r p) f x.read.ulps)) same known in
    subst (λ s. IsAtMost s a) (sym y.size_is) (subst (λ s. IsAtMost (error_size (magnitude r y.parts) g y.read.ulps) s) (sym x.size_is) moved)

-- ---- an error and a bound
pub above_not_within : AboveNotWithin
above_not_within mode r f bytes bound x y =
    let size : y.size ≡ x.size = size_unique mode r f bytes y.size x.size y.has_size x.has_size in
    let same : y.bound_parts ≡ x.bound_parts = parts_unique r bound y.bound_parts x.bound_parts y.bound_numeral.beginning x.bound_numeral.beginning in
    let most : IsAtMost x.size (magnitude r x.bound_parts) = subst (λ p. IsAtMost x.size (magnitude r p)) same (subst (λ s. IsAtMost s (magnitude r y.bound_parts)) size y.at_most) in
    let less : IsLess (magnitude r x.bound_parts) x.size = x.above in
    absurd (omega (arith, most, less))

pub within_each_longer : WithinEachLonger
within_each_longer r f g bytes bound order h =
    let x = h.has_size in
    let v = read_number_is_the_one NearestEven r x.parts g in
    let b : Fraction = error_size (magnitude r x.parts) g v.1.ulps in
    let has : HasErrorSize NearestEven r g bytes b = record { parts = x.parts; numeral = x.numeral; number = v.0; read = v.1; size_is = refl } in
    let m : Fraction = magnitude r h.bound_parts in
    let grows : IsAtMost b h.size = error_never_grows r f g bytes h.size b order x has in
    record {
      size = b;
      has_size = has;
      bound_parts = h.bound_parts;
      bound_numeral = h.bound_numeral;
      at_most = least_moved h.size.num h.size.den m.num m.den b.den b.num (den_some NearestEven r f bytes h.size x) grows h.at_most;
    }
