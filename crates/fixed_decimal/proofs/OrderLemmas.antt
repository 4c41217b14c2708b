-- Reading keeps the order of numbers.
use Rattle.std.proofs.Common.{◌≡◌, ℕ, ◌*◌, ◌^◌, ◌<◌, ◌≤◌, Bool, true, false, pos, neg_ℤ, ◌≤ℤ◌, if◌then◌else◌, arith, subst, ⊎_elim, mul-pos, mul-le-mul_right}
use Rattle.std.proofs.lemmas.Bool.{cases_lt}
use Rattle.std.proofs.lemmas.Int.{ints}
use Rattle.fixed_bits.proofs.Public.{rounded_exact, rounded_same, rounded_unique}
use Rattle.fixed_bits.specs.Nearest.{distance}
use Rattle.fixed_bits.specs.Rounded.{IsRounded, IsNotAbove, IsNotBelow}
use Rattle.fixed_bits.specs.declared.mode.ReadMode.{ReadMode}
use Rattle.fixed_bits.specs.declared.mode.ReadMode.TheVariants.{NearestEven, TowardsZero, Floor, Ceil}
use Rattle.fixed_bits.specs.declared.mode.ReadMode.TheVariants.{NearestAway, NearestZero, NearestUp, NearestDown, AwayFromZero}
use Rattle.fixed_decimal.specs.Laws.{ReadDecimalKeepsOrder}
use Rattle.fixed_numeral.proofs.Public.{magnitude_pos}
use Rattle.fixed_numeral.specs.Numeral.{is_minus, signed}
use Rattle.fixed_numeral.specs.Value.{magnitude}
use Rattle.fixed_numeral.specs.declared.radix.Radix.TheVariants.{Dec}

-- ---- fractions with one denominator: the smaller one does not round to more
near_below : (a b d p q : ℕ) → 2 * distance a (p * d) ≤ d → 2 * distance b (q * d) ≤ d → a < b → q < p → ⊥
near_below a b d p q x y l k = omega (arith, mul-le-mul_right d k)

not_above_below : (a b d p q : ℕ) → IsNotAbove a d p → IsNotAbove b d q → a < b → q < p → ⊥
not_above_below a b d p q x y l k = omega (arith, mul-le-mul_right d k, x.at_most, y.next)

not_below_below : (a b d p q : ℕ) → IsNotBelow a d p → IsNotBelow b d q → a < b → q < p → ⊥
not_below_below a b d p q x y l k = omega (arith, mul-le-mul_right d k, x.before, y.at_least)

rounded_below : (m : ReadMode) (s : Bool) (a b d p q : ℕ) → IsRounded m s a d p → IsRounded m s b d q → a < b → q < p → ⊥
rounded_below NearestEven s a b d p q x y l k = near_below a b d p q x.near y.near l k
rounded_below NearestAway s a b d p q x y l k = near_below a b d p q x.near y.near l k
rounded_below NearestZero s a b d p q x y l k = near_below a b d p q x.near y.near l k
rounded_below NearestUp false a b d p q x y l k = near_below a b d p q x.near y.near l k
rounded_below NearestUp true a b d p q x y l k = near_below a b d p q x.near y.near l k
rounded_below NearestDown false a b d p q x y l k = near_below a b d p q x.near y.near l k
rounded_below NearestDown true a b d p q x y l k = near_below a b d p q x.near y.near l k
rounded_below AwayFromZero s a b d p q x y l k = not_below_below a b d p q x y l k
rounded_below TowardsZero s a b d p q x y l k = not_above_below a b d p q x y l k
rounded_below Floor false a b d p q x y l k = not_above_below a b d p q x y l k
rounded_below Floor true a b d p q x y l k = not_below_below a b d p q x y l k
rounded_below Ceil false a b d p q x y l k = not_below_below a b d p q x y l k
rounded_below Ceil true a b d p q x y l k = not_above_below a b d p q x y l k

-- ---- any two fractions
rounded_order : (m : ReadMode) (s : Bool) (a b d p q : ℕ) → 0 < d → a ≤ b → IsRounded m s a d p → IsRounded m s b d q → p ≤ q
rounded_order m s a b d p q some h x y = ⊎_elim
    (λ (k : q < p). absurd (⊎_elim
    (λ (l : a < b). rounded_below m s a b d p q x y l k)
    (λ (l : b ≤ a). let same : b ≡ a = omega arith in
    let e : q ≡ p = rounded_unique m s a d q p some (subst (λ z. IsRounded m s z d q) same y) x in omega arith)
    (cases_lt a b)))
    (λ (k : p ≤ q). k)
    (cases_lt q p)

fraction_order : (m : ReadMode) (s : Bool) (n d n' d' k p q : ℕ) → 0 < d → 0 < d' → n * d' ≤ n' * d → IsRounded m s (n * k) d p
    → IsRounded m s (n' * k) d' q → p ≤ q
fraction_order m s n d n' d' k p q some some' h x y =
    let both : 0 < d * d' = mul-pos some some' in
    let left : IsRounded m s (n * d' * k) (d * d') p = rounded_same m s (n * k) d (n * d' * k) (d * d') p some both (omega arith) x in
    let right : IsRounded m s (n' * d * k) (d * d') q = rounded_same m s (n' * k) d' (n' * d * k) (d * d') q some' both (omega arith) y in
    let order : n * d' * k ≤ n' * d * k = mul-le-mul_right k h in
    rounded_order m s (n * d' * k) (n' * d * k) (d * d') p q both order left right

-- ---- zero rounds to zero
no_factor : (n d : ℕ) → 0 < d → n * d ≤ 0 → n ≡ 0
no_factor n d some h = ⊎_elim
    (λ (l : 0 < n). absurd (let more : 0 < n * d = mul-pos l some in omega arith))
    (λ (l : n ≤ 0). omega arith)
    (cases_lt 0 n)

nothing_rounded : (m : ReadMode) (s : Bool) (n d k u : ℕ) → 0 < d → n ≡ 0 → IsRounded m s (n * k) d u → u ≡ 0
nothing_rounded m s n d k u some z x =
    let same : n * k ≡ 0 * d = rw z (omega arith) in
    rounded_unique m s (0 * d) d u 0 some (subst (λ y. IsRounded m s y d u) same x) (rounded_exact m s 0 d some)

-- ---- with signs
sign_order : (m : ReadMode) (s t : Bool) (n d n' d' k u v : ℕ) → 0 < d → 0 < d'
    → (if s then neg_ℤ (pos (n * d')) else pos (n * d')) ≤ℤ (if t then neg_ℤ (pos (n' * d)) else pos (n' * d))
    → IsRounded m s (n * k) d u → IsRounded m t (n' * k) d' v
    → (if s then neg_ℤ (pos u) else pos u) ≤ℤ (if t then neg_ℤ (pos v) else pos v)
sign_order m false false n d n' d' k u v some some' h x y =
    let le : n * d' ≤ n' * d = omega (arith, ints, h) in
    let order : u ≤ v = fraction_order m false n d n' d' k u v some some' le x y in
    omega (arith, ints, order)
sign_order m true true n d n' d' k u v some some' h x y =
    let le : n' * d ≤ n * d' = omega (arith, ints, h) in
    let order : v ≤ u = fraction_order m true n' d' n d k v u some' some le y x in
    omega (arith, ints, order)
sign_order m true false n d n' d' k u v some some' h x y = omega (arith, ints)
sign_order m false true n d n' d' k u v some some' h x y =
    let left : n * d' ≤ 0 = omega (arith, ints, h) in
    let right : n' * d ≤ 0 = omega (arith, ints, h) in
    let e : u ≡ 0 = nothing_rounded m false n d k u some (no_factor n d' some' left) x in
    let f : v ≡ 0 = nothing_rounded m true n' d' k v some' (no_factor n' d some right) y in
    omega (arith, ints, e, f)

pub read_decimal_keeps_order : ReadDecimalKeepsOrder
read_decimal_keeps_order mode p q n v w h x y =
    let order : signed p.sign x.units ≤ℤ signed q.sign y.units = sign_order mode (is_minus p.sign) (is_minus q.sign) (magnitude Dec p).num (magnitude Dec p).den
    (magnitude Dec q).num (magnitude Dec q).den (10 ^ n) x.units y.units (magnitude_pos Dec p) (magnitude_pos Dec q) h x.rounded y.rounded in
    rw (x.value, y.value) order
