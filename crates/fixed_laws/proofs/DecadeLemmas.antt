-- The decade of a value and its figures exist and are unique.
use Rattle.std.proofs.Common.{◌≡◌, ℕ, zero, suc, ◌+◌, ◌-◌, ◌*◌, ◌/◌, ◌%◌, ◌^◌, ◌<◌, ◌≤◌, ◌⊎◌, length, false, ℤ, pos, negsuc, ◌+ℤ◌, ◌-ℤ◌, refl, sym, ap, ◌∙◌, ⊎_elim, arith, pow-suc, pow_pos, mul-le-mul_left, mul-le-mul_right, le_antisymm}
use Rattle.std.proofs.lemmas.Nat.{pow-add}
use Rattle.std.proofs.lemmas.Bool.{cases_lt}
use Rattle.std.proofs.Math.Nat.{one-le-pow, pow-zero, pow-le-pow_right, eq_of_mul-eq-mul_right}
use Rattle.fixed_bits.specs.Nearest.{IsNearest}
use Rattle.fixed_bits.proofs.Public.{nearest_unique, nearest_exists}
use Rattle.fixed_write.specs.Shortest.{IsShortest}
use Rattle.fixed_write.specs.Texts.{whole_digits}
use Rattle.fixed_write.specs.Styled.{IsDecade, IsShortFigures, IsRoundedFigures, ten_up, ten_down}
use Rattle.fixed_write.proofs.Public.{shortest_unique, shortest_exists}

ten_pos : (k : ℕ) → 0 < 10 ^ k
ten_pos k = one-le-pow k 10 (omega arith)

-- ---- the decade is unique
power_less : (a b u c : ℕ) → 0 < u → 10 ^ a * u ≤ c → c < 10 * 10 ^ b * u → a ≤ b
power_less a b u c some low high = ⊎_elim (λ (l : b < a).
    let more : 10 ^ suc b ≤ 10 ^ a = pow-le-pow_right (omega arith) l in
    let ten : 10 ^ suc b ≡ 10 * 10 ^ b = rw pow-suc (omega arith) in
    let far : 10 * 10 ^ b * u ≤ 10 ^ a * u = mul-le-mul_right u (omega arith) in
    absurd (omega arith)) (λ l. l) (cases_lt b a)

shift_less : (a b u c : ℕ) → 1 * u ≤ c * 10 ^ suc a → c * 10 ^ suc b < 10 * 1 * u → b ≤ a
shift_less a b u c low high = ⊎_elim (λ (l : a < b).
    let more : 10 ^ suc (suc a) ≤ 10 ^ suc b = pow-le-pow_right (omega arith) (omega arith) in
    let ten : 10 ^ suc (suc a) ≡ 10 * 10 ^ suc a = rw (pow-suc 10 (suc a)) (omega arith) in
    let far : c * 10 ^ suc (suc a) ≤ c * 10 ^ suc b = mul-le-mul_left c more in
    let same : c * 10 ^ suc (suc a) ≡ 10 * (c * 10 ^ suc a) = rw ten (omega arith) in
    absurd (omega arith)) (λ l. l) (cases_lt a b)

mixed : (a b u c : ℕ) → 10 ^ a * u ≤ c * 1 → c * 10 ^ suc b < 10 * 1 * u → ⊥
mixed a b u c low high =
    let some : 1 ≤ 10 ^ a = ten_pos a in
    let unit : 1 * u ≤ 10 ^ a * u = mul-le-mul_right u some in
    let ten : 10 ^ suc b ≡ 10 ^ b * 10 = rw pow-suc refl in
    let one : 1 ≤ 10 ^ b = ten_pos b in
    let times : c * (1 * 10) ≤ c * (10 ^ b * 10) = mul-le-mul_left c (mul-le-mul_right 10 one) in
    let same : c * 10 ^ suc b ≡ c * (10 ^ b * 10) = ap (λ x. c * x) ten in
    omega arith

pub decade_unique : (c g : ℕ) (e f : ℤ) → IsDecade c g e → IsDecade c g f → e ≡ f
decade_unique c g (pos a) (pos b) h i =
    ap pos (le_antisymm (power_less a b (2 ^ g) c (pow_pos g) (omega (arith, h.low)) (omega (arith, i.high))) (power_less b a (2 ^ g) c (pow_pos g) (omega (arith, i.low)) (omega (arith, h.high))))
decade_unique c g (pos a) (negsuc b) h i = absurd (mixed a b (2 ^ g) c h.low i.high)
decade_unique c g (negsuc a) (pos b) h i = absurd (mixed b a (2 ^ g) c i.low h.high)
decade_unique c g (negsuc a) (negsuc b) h i =
    ap negsuc (le_antisymm (shift_less b a (2 ^ g) c i.low h.high) (shift_less a b (2 ^ g) c h.low i.high))

-- ---- the decade exists
up_from : (fuel t u c : ℕ) → 0 < u → c < fuel + t → 10 ^ t * u ≤ c → (s : ℕ) × (10 ^ s * u ≤ c) × (c < 10 * 10 ^ s * u)
up_from zero t u c some l low =
    let small : t < 10 ^ t = grows t in
    let one : 10 ^ t * 1 ≤ 10 ^ t * u = mul-le-mul_left (10 ^ t) some in
    absurd (omega arith)
  where
    grows : (t : ℕ) → t < 10 ^ t
    grows zero = omega arith
    grows (suc t) = let h = grows t in rw pow-suc (omega arith)
up_from (suc fuel) t u c some l low = ⊎_elim
    (λ (a : c < 10 * 10 ^ t * u). (t, low, a))
    (λ (a : 10 * 10 ^ t * u ≤ c). let ten : 10 ^ suc t ≡ 10 * 10 ^ t = rw pow-suc (omega arith) in up_from fuel (suc t) u c some (omega arith) (rw ten a))
    (cases_lt c (10 * 10 ^ t * u))

down_from : (fuel s u c : ℕ) → 0 < c → u < fuel + s → c * 10 ^ s < 1 * u → (a : ℕ) × (1 * u ≤ c * 10 ^ suc a) × (c * 10 ^ suc a < 10 * 1 * u)
down_from zero s u c some l high =
    let small : s < 10 ^ s = grows s in
    let one : 1 * 10 ^ s ≤ c * 10 ^ s = mul-le-mul_right (10 ^ s) some in
    absurd (omega arith)
  where
    grows : (t : ℕ) → t < 10 ^ t
    grows zero = omega arith
    grows (suc t) = let h = grows t in rw pow-suc (omega arith)
down_from (suc fuel) s u c some l high =
    let ten : c * 10 ^ suc s ≡ 10 * (c * 10 ^ s) = rw pow-suc (omega arith) in
    ⊎_elim
    (λ (a : c * 10 ^ suc s < 1 * u). down_from fuel (suc s) u c some (omega arith) a)
    (λ (a : 1 * u ≤ c * 10 ^ suc s). (s, a, omega arith))
    (cases_lt (c * 10 ^ suc s) (1 * u))

pub decade_exists : (c g : ℕ) → 0 < c → (e : ℤ) × IsDecade c g e
decade_exists c g some = ⊎_elim
    (λ (l : c * 10 ^ 0 < 1 * 2 ^ g).
    let (a, low, high) = down_from (suc (2 ^ g)) 0 (2 ^ g) c some (omega arith) l in
    (negsuc a, record { low = low; high = high }))
    (λ (l : 1 * 2 ^ g ≤ c * 10 ^ 0).
    let (t, low, high) = up_from (suc c) 0 (2 ^ g) c (pow_pos g) (omega arith) (omega arith) in
    (pos t, record { low = omega (arith, low); high = omega (arith, high) }))
    (cases_lt (c * 10 ^ 0) (1 * 2 ^ g))

-- ---- figures without trailing zeros are unique
zeros_less : (m n y z : ℕ) → m * 10 ^ y ≡ n * 10 ^ z → (m % 10 ≡ 0 → ⊥) → y < z → ⊥
zeros_less m n y z e last l =
    let all : z ≡ suc (z - y - 1) + y = omega arith in
    let power : 10 ^ z ≡ 10 ^ suc (z - y - 1) * 10 ^ y = ap (λ i. 10 ^ i) all ∙ pow-add 10 (suc (z - y - 1)) y in
    let ten : 10 ^ suc (z - y - 1) ≡ 10 ^ (z - y - 1) * 10 = rw pow-suc refl in
    let whole : m * 10 ^ y ≡ n * (10 ^ (z - y - 1) * 10) * 10 ^ y = e ∙ rw (power, ten) (grouped n (10 ^ (z - y - 1)) (10 ^ y)) in
    let same : m ≡ n * (10 ^ (z - y - 1) * 10) = eq_of_mul-eq-mul_right (10 ^ y) (ten_pos y) m (n * (10 ^ (z - y - 1) * 10)) whole in
    last (rw same (tens n (10 ^ (z - y - 1))))
  where
    grouped : (n x y : ℕ) → n * (x * 10 * y) ≡ n * (x * 10) * y
    grouped n x y = omega arith

    tens : (n x : ℕ) → n * (x * 10) % 10 ≡ 0
    tens n x = let e : n * (x * 10) ≡ n * x * 10 = omega arith in rw e (omega arith)

figures_one : (m n y z : ℕ) → m * 10 ^ y ≡ n * 10 ^ z → (m % 10 ≡ 0 → ⊥) → (n % 10 ≡ 0 → ⊥) → m ≡ n
figures_one m n y z e lm ln = ⊎_elim
    (λ l. absurd (zeros_less m n y z e lm l))
    (λ l. ⊎_elim
    (λ k. absurd (zeros_less n m z y (sym e) ln k))
    (λ k. (let same : y ≡ z = omega arith in
    let e' : m * 10 ^ z ≡ n * 10 ^ z = rw same at e in
    eq_of_mul-eq-mul_right (10 ^ z) (ten_pos z) m n e'))
    (cases_lt z y))
    (cases_lt y z)

pub stripped : (fuel n : ℕ) → 0 < n → n < fuel → (m : ℕ) × (z : ℕ) × (n ≡ m * 10 ^ z) × (m % 10 ≡ 0 → ⊥)
stripped zero n some l = absurd (omega arith)
stripped (suc fuel) n some l = ⊎_elim
    (λ (a : 0 < n % 10). (n, 0, rw pow-zero (omega arith), (λ e. omega arith)))
    (λ (a : n % 10 ≤ 0).
    let (m, z, e, last) = stripped fuel (n / 10) (omega arith) (omega arith) in
    (m, suc z, rw pow-suc (tens n m (10 ^ z) (omega arith) e), last))
    (cases_lt 0 (n % 10))
  where
    tens : (n m p : ℕ) → n % 10 ≡ 0 → n / 10 ≡ m * p → n ≡ m * (p * 10)
    tens n m p z e = omega (arith, ap (λ x. x * 10) e)

-- ---- the shortest figures
pub short_unique : (c g m n : ℕ) (e f : ℤ) → IsShortFigures c g m e → IsShortFigures c g n f → (m ≡ n) × (e ≡ f)
short_unique c g m n e f h i =
    let (k, number) = shortest_unique c g h.number h.places i.number i.places h.shortest i.shortest in
    (figures_one m n h.zeros i.zeros (sym h.figures ∙ (number ∙ i.figures)) h.last i.last, h.exponent ∙ (rw (k, number) refl ∙ sym i.exponent))

number_some : (c g n k : ℕ) → 0 < c → IsShortest c g n k → 0 < n
number_some c g zero k some h = absurd (none (10 ^ k) (ten_pos k) h.reads_back)
  where
    none : (d : ℕ) → 0 < d → IsNearest (0 * 2 ^ g) d c → ⊥
    none d p r =
        let more : 1 * d ≤ c * d = mul-le-mul_right d some in
        omega (arith, r.near)
number_some c g (suc n) k some h = omega arith

pub short_exists : (c g : ℕ) → 0 < c → (m : ℕ) × (e : ℤ) × IsShortFigures c g m e
short_exists c g some =
    let (n, k, h) = shortest_exists c g in
    let (m, z, e, last) = stripped (suc n) n (number_some c g n k some h) (omega arith) in
    (m, pos (length (whole_digits 10 false n)) -ℤ pos (k + 1), record { number = n; places = k; zeros = z; shortest = h; figures = e; last = last; exponent = refl })

-- ---- the rounded figures
two_pos : (g : ℕ) → 0 < 2 ^ g
two_pos g = pow_pos g

up_some : (e : ℤ) → 0 < ten_up e
up_some (pos e) = ten_pos e
up_some (negsuc e) = omega arith

unit_some : (g : ℕ) (e : ℤ) → 0 < ten_up e * 2 ^ g
unit_some g e = let l : 1 * 2 ^ g ≤ ten_up e * 2 ^ g = mul-le-mul_right (2 ^ g) (up_some e) in omega (arith, l, two_pos g)

pub rounded_unique : (p c g m n : ℕ) (e f : ℤ) → IsRoundedFigures p c g m e → IsRoundedFigures p c g n f → (m ≡ n) × (e ≡ f)
rounded_unique p c g m n e f h i =
    let decade : h.decade ≡ i.decade = decade_unique c g h.decade i.decade h.is_decade i.is_decade in
    let near : IsNearest (c * 10 ^ p * ten_down h.decade) (ten_up h.decade * 2 ^ g) i.number = rw decade i.near in
    let number : h.number ≡ i.number = nearest_unique (c * 10 ^ p * ten_down h.decade) (ten_up h.decade * 2 ^ g) h.number i.number (unit_some g h.decade) h.near near in
    ⊎_elim
    (λ same. (let a = h.carried same in let b = i.carried (sym number ∙ same) in (a.0 ∙ sym b.0, a.1 ∙ (rw decade refl ∙ sym b.1))))
    (λ other. (let a = h.kept other in let b = i.kept (λ q. other (number ∙ q)) in (a.0 ∙ (number ∙ sym b.0), a.1 ∙ (decade ∙ sym b.1))))
    (decide h.number (10 ^ suc p))
  where
    decide : (x y : ℕ) → (x ≡ y) ⊎ (x ≡ y → ⊥)
    decide x y = grind arith

pub rounded_exists : (p c g : ℕ) → 0 < c → (m : ℕ) × (e : ℤ) × IsRoundedFigures p c g m e
rounded_exists p c g some =
    let (d, decade) = decade_exists c g some in
    let (n, near) = nearest_exists (c * 10 ^ p * ten_down d) (ten_up d * 2 ^ g) (unit_some g d) in
    ⊎_elim
    (λ same. (10 ^ p, d +ℤ pos 1, record { decade = d; is_decade = decade; number = n; near = near; kept = λ other. absurd (other same); carried = λ s. (refl, refl) }))
    (λ other. (n, d, record { decade = d; is_decade = decade; number = n; near = near; kept = λ o. (refl, refl); carried = λ same. absurd (other same) }))
    (decide n (10 ^ suc p))
  where
    decide : (x y : ℕ) → (x ≡ y) ⊎ (x ≡ y → ⊥)
    decide x y = grind arith
