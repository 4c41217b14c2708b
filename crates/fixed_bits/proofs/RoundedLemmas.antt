-- Rounding in each mode: uniqueness, existence, and equal fractions.
use Rattle.std.proofs.Common.{◌≡◌, ℕ, ◌+◌, ◌*◌, ◌/◌, ◌%◌, ◌<◌, ◌≤◌, Bool, true, false, arith, sym, mul-le-mul_right, mul-le-mul_left, ⊎_elim, div-add-mod', mod-lt}
use Rattle.std.proofs.Math.Nat.{le_of_mul-le-mul_left}
use Rattle.std.proofs.lemmas.Bool.{cases_lt}
use Rattle.fixed_bits.specs.declared.mode.ReadMode.{ReadMode}
use Rattle.fixed_bits.specs.declared.mode.ReadMode.TheVariants.{NearestEven, TowardsZero, Floor, Ceil}
use Rattle.fixed_bits.specs.declared.mode.ReadMode.TheVariants.{NearestAway, NearestZero, NearestUp, NearestDown, AwayFromZero}
use Rattle.fixed_bits.specs.Nearest.{distance}
use Rattle.fixed_bits.specs.Rounded.{IsRounded, IsNotAbove, IsNotBelow, IsNearestGreater, IsNearestLesser, magnitude_mode}
use Rattle.fixed_bits.proofs.NearestLemmas.{nearest_by_rest, nearest_unique, nearest_exists, nearest_same}

-- ---- nearest with ties to the greater or to the lesser, by sums instead of distances
pub record GreaterBand (num den q : ℕ) : Type 0 where
  pub lo : 2 * (q * den) ≤ 2 * num + den
  pub hi : 2 * num < 2 * (q * den) + den

pub record LesserBand (num den q : ℕ) : Type 0 where
  pub lo : 2 * (q * den) < 2 * num + den
  pub hi : 2 * num ≤ 2 * (q * den) + den

at_tie_above : (num den x : ℕ) → 2 * num ≡ 2 * x + den → 2 * distance num x ≡ den
at_tie_above num den x e = omega arith

at_tie_below : (num den x : ℕ) → 2 * num + den ≡ 2 * x → 2 * distance num x ≡ den
at_tie_below num den x e = omega arith

pub greater_band : (num den q : ℕ) → 0 < den → IsNearestGreater num den q → GreaterBand num den q
greater_band num den q some h =
    let near = h.near in record {
      lo = omega arith;
      hi = ⊎_elim (λ l. l) (λ l. absurd (let tie = h.tie (at_tie_above num den (q * den) (omega arith)) in omega arith)) (cases_lt (2 * num) (2 * (q * den) + den));
    }

pub greater_from_band : (num den q : ℕ) → GreaterBand num den q → IsNearestGreater num den q
greater_from_band num den q b = record { near = omega (arith, b.lo, b.hi); tie = λ e. omega (arith, b.lo, b.hi) }

pub lesser_band : (num den q : ℕ) → 0 < den → IsNearestLesser num den q → LesserBand num den q
lesser_band num den q some h =
    let near = h.near in record {
      lo = ⊎_elim (λ l. l) (λ l. absurd (let tie = h.tie (at_tie_below num den (q * den) (omega arith)) in omega arith)) (cases_lt (2 * (q * den)) (2 * num + den));
      hi = omega arith;
    }

pub lesser_from_band : (num den q : ℕ) → LesserBand num den q → IsNearestLesser num den q
lesser_from_band num den q b = record { near = omega (arith, b.lo, b.hi); tie = λ e. omega (arith, b.lo, b.hi) }

greater_order : (num den p q : ℕ) → GreaterBand num den p → GreaterBand num den q → p < q → ⊥
greater_order num den p q a b l = omega (arith, mul-le-mul_right den l)

lesser_order : (num den p q : ℕ) → LesserBand num den p → LesserBand num den q → p < q → ⊥
lesser_order num den p q a b l = omega (arith, mul-le-mul_right den l)

greater_unique : (num den p q : ℕ) → 0 < den → IsNearestGreater num den p → IsNearestGreater num den q → p ≡ q
greater_unique num den p q some a b =
    let x = greater_band num den p some a in
    let y = greater_band num den q some b in
    grind (arith, greater_order num den p q, greater_order num den q p, x, y)

lesser_unique : (num den p q : ℕ) → 0 < den → IsNearestLesser num den p → IsNearestLesser num den q → p ≡ q
lesser_unique num den p q some a b =
    let x = lesser_band num den p some a in
    let y = lesser_band num den q some b in
    grind (arith, lesser_order num den p q, lesser_order num den q p, x, y)

-- ---- the greatest not above, and the least not below

not_above_order : (num den p q : ℕ) → IsNotAbove num den p → IsNotAbove num den q → p < q → ⊥
not_above_order num den p q a b l = omega (arith, mul-le-mul_right den l)

not_below_order : (num den p q : ℕ) → IsNotBelow num den p → IsNotBelow num den q → p < q → ⊥
not_below_order num den p q a b l = omega (arith, mul-le-mul_right den l)

not_above_unique : (num den p q : ℕ) → IsNotAbove num den p → IsNotAbove num den q → p ≡ q
not_above_unique num den p q a b = grind (arith, not_above_order num den p q, not_above_order num den q p)

not_below_unique : (num den p q : ℕ) → IsNotBelow num den p → IsNotBelow num den q → p ≡ q
not_below_unique num den p q a b = grind (arith, not_below_order num den p q, not_below_order num den q p)

-- at most one number is the rounded one
pub rounded_unique : (m : ReadMode) (negative : Bool) (num den p q : ℕ) → 0 < den → IsRounded m negative num den p → IsRounded m negative num den q → p ≡ q
rounded_unique NearestEven n num den p q pos a b = nearest_unique num den p q pos a b
rounded_unique NearestAway n num den p q pos a b = greater_unique num den p q pos a b
rounded_unique NearestZero n num den p q pos a b = lesser_unique num den p q pos a b
rounded_unique NearestUp false num den p q pos a b = greater_unique num den p q pos a b
rounded_unique NearestUp true num den p q pos a b = lesser_unique num den p q pos a b
rounded_unique NearestDown false num den p q pos a b = lesser_unique num den p q pos a b
rounded_unique NearestDown true num den p q pos a b = greater_unique num den p q pos a b
rounded_unique AwayFromZero n num den p q pos a b = not_below_unique num den p q a b
rounded_unique TowardsZero n num den p q pos a b = not_above_unique num den p q a b
rounded_unique Floor false num den p q pos a b = not_above_unique num den p q a b
rounded_unique Floor true num den p q pos a b = not_below_unique num den p q a b
rounded_unique Ceil false num den p q pos a b = not_below_unique num den p q a b
rounded_unique Ceil true num den p q pos a b = not_above_unique num den p q a b

-- ---- a rounded number exists
not_above_exists : (num den : ℕ) → 0 < den → (q : ℕ) × IsNotAbove num den q
not_above_exists num den some =
    let split : num ≡ num / den * den + num % den = sym (div-add-mod' num den) in
    let low : num % den < den = mod-lt num some in
    (num / den, record { at_most = omega arith; next = omega arith })

not_below_exists : (num den : ℕ) → 0 < den → (q : ℕ) × IsNotBelow num den q
not_below_exists num den some =
    let split : num ≡ num / den * den + num % den = sym (div-add-mod' num den) in
    let low : num % den < den = mod-lt num some in
    ⊎_elim (λ h. (num / den + 1, record { at_least = omega arith; before = omega arith }))
    (λ h. (num / den, record { at_least = omega arith; before = omega arith }))
    (cases_lt 0 (num % den))

greater_exists : (num den : ℕ) → 0 < den → (q : ℕ) × IsNearestGreater num den q
greater_exists num den some =
    let split : num ≡ num / den * den + num % den = sym (div-add-mod' num den) in
    let low : num % den < den = mod-lt num some in
    ⊎_elim (λ h. (num / den, greater_from_band num den (num / den) (record { lo = omega arith; hi = omega arith })))
    (λ h. (num / den + 1, greater_from_band num den (num / den + 1) (record { lo = omega arith; hi = omega arith })))
    (cases_lt (2 * (num % den)) den)

lesser_exists : (num den : ℕ) → 0 < den → (q : ℕ) × IsNearestLesser num den q
lesser_exists num den some =
    let split : num ≡ num / den * den + num % den = sym (div-add-mod' num den) in
    let low : num % den < den = mod-lt num some in
    ⊎_elim (λ h. (num / den + 1, lesser_from_band num den (num / den + 1) (record { lo = omega arith; hi = omega arith })))
    (λ h. (num / den, lesser_from_band num den (num / den) (record { lo = omega arith; hi = omega arith })))
    (cases_lt den (2 * (num % den)))

pub rounded_exists : (m : ReadMode) (negative : Bool) (num den : ℕ) → 0 < den → (q : ℕ) × IsRounded m negative num den q
rounded_exists NearestEven n num den some = nearest_exists num den some
rounded_exists NearestAway n num den some = greater_exists num den some
rounded_exists NearestZero n num den some = lesser_exists num den some
rounded_exists NearestUp false num den some = greater_exists num den some
rounded_exists NearestUp true num den some = lesser_exists num den some
rounded_exists NearestDown false num den some = lesser_exists num den some
rounded_exists NearestDown true num den some = greater_exists num den some
rounded_exists AwayFromZero n num den some = not_below_exists num den some
rounded_exists TowardsZero n num den some = not_above_exists num den some
rounded_exists Floor false num den some = not_above_exists num den some
rounded_exists Floor true num den some = not_below_exists num den some
rounded_exists Ceil false num den some = not_below_exists num den some
rounded_exists Ceil true num den some = not_above_exists num den some

-- ---- equal fractions
below_same : (x d x' d' y y' : ℕ) → 0 < d → 0 < d' → x * d' ≡ x' * d → y * d' ≡ y' * d → x < y → x' < y'
below_same x d x' d' y y' some some' e e' l =
    let up : d' * (x + 1) ≤ d' * y = mul-le-mul_left d' (omega arith) in
    ⊎_elim (λ h. h) (λ h. absurd (let down : d * y' ≤ d * x' = mul-le-mul_left d h in omega arith)) (cases_lt x' y')

not_above_same : (n d n' d' q : ℕ) → 0 < d → 0 < d' → n * d' ≡ n' * d → IsNotAbove n d q → IsNotAbove n' d' q
not_above_same n d n' d' q some some' e h = record {
  at_most = le_of_mul-le-mul_left {k = d} (omega (arith, mul-le-mul_left d' h.at_most)) some;
  next = below_same n d n' d' ((q + 1) * d) ((q + 1) * d') some some' e (omega arith) h.next;
}

not_below_same : (n d n' d' q : ℕ) → 0 < d → 0 < d' → n * d' ≡ n' * d → IsNotBelow n d q → IsNotBelow n' d' q
not_below_same n d n' d' q some some' e h = record {
  at_least = le_of_mul-le-mul_left {k = d} (omega (arith, mul-le-mul_left d' h.at_least)) some;
  before = below_same (q * d) d (q * d') d' (n + d) (n' + d') some some' (omega arith) (omega arith) h.before;
}

greater_same : (n d n' d' q : ℕ) → 0 < d → 0 < d' → n * d' ≡ n' * d → IsNearestGreater n d q → IsNearestGreater n' d' q
greater_same n d n' d' q some some' e h =
    let b = greater_band n d q some h in
    greater_from_band n' d' q (record {
      lo = le_of_mul-le-mul_left {k = d} (omega (arith, mul-le-mul_left d' b.lo)) some;
      hi = below_same (2 * n) d (2 * n') d' (2 * (q * d) + d) (2 * (q * d') + d') some some' (omega arith) (omega arith) b.hi;
    })

lesser_same : (n d n' d' q : ℕ) → 0 < d → 0 < d' → n * d' ≡ n' * d → IsNearestLesser n d q → IsNearestLesser n' d' q
lesser_same n d n' d' q some some' e h =
    let b = lesser_band n d q some h in
    lesser_from_band n' d' q (record {
      lo = below_same (2 * (q * d)) d (2 * (q * d')) d' (2 * n + d) (2 * n' + d') some some' (omega arith) (omega arith) b.lo;
      hi = le_of_mul-le-mul_left {k = d} (omega (arith, mul-le-mul_left d' b.hi)) some;
    })

pub rounded_same : (m : ReadMode) (negative : Bool) (n d n' d' q : ℕ) → 0 < d → 0 < d' → n * d' ≡ n' * d → IsRounded m negative n d q → IsRounded m negative n' d' q
rounded_same NearestEven s n d n' d' q some some' e h = nearest_same n d n' d' q some some' e h
rounded_same NearestAway s n d n' d' q some some' e h = greater_same n d n' d' q some some' e h
rounded_same NearestZero s n d n' d' q some some' e h = lesser_same n d n' d' q some some' e h
rounded_same NearestUp false n d n' d' q some some' e h = greater_same n d n' d' q some some' e h
rounded_same NearestUp true n d n' d' q some some' e h = lesser_same n d n' d' q some some' e h
rounded_same NearestDown false n d n' d' q some some' e h = lesser_same n d n' d' q some some' e h
rounded_same NearestDown true n d n' d' q some some' e h = greater_same n d n' d' q some some' e h
rounded_same AwayFromZero s n d n' d' q some some' e h = not_below_same n d n' d' q some some' e h
rounded_same TowardsZero s n d n' d' q some some' e h = not_above_same n d n' d' q some some' e h
rounded_same Floor false n d n' d' q some some' e h = not_above_same n d n' d' q some some' e h
rounded_same Floor true n d n' d' q some some' e h = not_below_same n d n' d' q some some' e h
rounded_same Ceil false n d n' d' q some some' e h = not_below_same n d n' d' q some some' e h
rounded_same Ceil true n d n' d' q some some' e h = not_above_same n d n' d' q some some' e h

-- ---- the rounded magnitude
pub magnitude_rounded : (m : ReadMode) (negative : Bool) (num den q : ℕ) → IsRounded (magnitude_mode m negative) false num den q → IsRounded m negative num den q
magnitude_rounded NearestEven false num den q h = h
magnitude_rounded NearestEven true num den q h = h
magnitude_rounded NearestAway false num den q h = h
magnitude_rounded NearestAway true num den q h = h
magnitude_rounded NearestZero false num den q h = h
magnitude_rounded NearestZero true num den q h = h
magnitude_rounded NearestUp false num den q h = h
magnitude_rounded NearestUp true num den q h = h
magnitude_rounded NearestDown false num den q h = h
magnitude_rounded NearestDown true num den q h = h
magnitude_rounded Floor false num den q h = h
magnitude_rounded Floor true num den q h = h
magnitude_rounded Ceil false num den q h = h
magnitude_rounded Ceil true num den q h = h
magnitude_rounded TowardsZero false num den q h = h
magnitude_rounded TowardsZero true num den q h = h
magnitude_rounded AwayFromZero false num den q h = h
magnitude_rounded AwayFromZero true num den q h = h

-- ---- a whole number rounds to itself
not_above_exact : (q u : ℕ) → 0 < u → IsNotAbove (q * u) u q
not_above_exact q u h = record { at_most = omega arith; next = omega arith }

not_below_exact : (q u : ℕ) → 0 < u → IsNotBelow (q * u) u q
not_below_exact q u h = record { at_least = omega arith; before = omega arith }

greater_exact : (q u : ℕ) → 0 < u → IsNearestGreater (q * u) u q
greater_exact q u h = greater_from_band (q * u) u q (record { lo = omega arith; hi = omega arith })

lesser_exact : (q u : ℕ) → 0 < u → IsNearestLesser (q * u) u q
lesser_exact q u h = lesser_from_band (q * u) u q (record { lo = omega arith; hi = omega arith })

pub rounded_exact : (m : ReadMode) (negative : Bool) (q u : ℕ) → 0 < u → IsRounded m negative (q * u) u q
rounded_exact NearestEven n q u h = nearest_by_rest (q * u) u q 0 (omega arith) (omega arith) (λ e. absurd (omega arith))
rounded_exact NearestAway n q u h = greater_exact q u h
rounded_exact NearestZero n q u h = lesser_exact q u h
rounded_exact NearestUp false q u h = greater_exact q u h
rounded_exact NearestUp true q u h = lesser_exact q u h
rounded_exact NearestDown false q u h = lesser_exact q u h
rounded_exact NearestDown true q u h = greater_exact q u h
rounded_exact Floor false q u h = not_above_exact q u h
rounded_exact Floor true q u h = not_below_exact q u h
rounded_exact Ceil false q u h = not_below_exact q u h
rounded_exact Ceil true q u h = not_above_exact q u h
rounded_exact TowardsZero n q u h = not_above_exact q u h
rounded_exact AwayFromZero n q u h = not_below_exact q u h

-- ---- rounding moves a value by less than one
pub rounded_close : (m : ReadMode) (negative : Bool) (num den q : ℕ) → 0 < den → IsRounded m negative num den q → (q * den < num + den) × (num < q * den + den)
rounded_close NearestEven n num den q some r = let near = r.near in (omega arith, omega arith)
rounded_close NearestAway n num den q some r = let near = r.near in (omega arith, omega arith)
rounded_close NearestZero n num den q some r = let near = r.near in (omega arith, omega arith)
rounded_close NearestUp false num den q some r = let near = r.near in (omega arith, omega arith)
rounded_close NearestUp true num den q some r = let near = r.near in (omega arith, omega arith)
rounded_close NearestDown false num den q some r = let near = r.near in (omega arith, omega arith)
rounded_close NearestDown true num den q some r = let near = r.near in (omega arith, omega arith)
rounded_close Floor false num den q some r = let low = r.at_most in let high = r.next in (omega arith, omega arith)
rounded_close Floor true num den q some r = let low = r.at_least in let high = r.before in (omega arith, omega arith)
rounded_close Ceil false num den q some r = let low = r.at_least in let high = r.before in (omega arith, omega arith)
rounded_close Ceil true num den q some r = let low = r.at_most in let high = r.next in (omega arith, omega arith)
rounded_close TowardsZero n num den q some r = let low = r.at_most in let high = r.next in (omega arith, omega arith)
rounded_close AwayFromZero n num den q some r = let low = r.at_least in let high = r.before in (omega arith, omega arith)
