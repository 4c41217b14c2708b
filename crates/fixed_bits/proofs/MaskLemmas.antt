-- The last bits of a number.
use Rattle.std.proofs.Common.{◌≡◌, ℕ, suc, ◌+◌, ◌-◌, ◌*◌, ◌/◌, ◌%◌, ◌^◌, ◌<◌, ◌≤◌, ℤ, pos, negsuc, bit_and, arith, ap, sym, ◌∙◌, div-add-mod', mod-lt, FitsSigned, of_z}
use Rattle.std.specs.Int.{w128}
use Rattle.std.proofs.Math.Nat.{lt_of_mul-lt-mul_right}
use Rattle.std.proofs.lemmas.Nat.{and_mask, mod-mul-add, pow_pos, pow-add}
use Rattle.fixed_bits.specs.Images.{wrap_to_unsigned}

-- the last bits of -1 - a are the last bits of a, inverted
turned_rest : (k m a : ℕ) → 0 < m → a < k * m → (k * m - suc a) % m ≡ m - 1 - a % m
turned_rest k m a some h =
    let split : a / m * m + a % m ≡ a = div-add-mod' a m in
    let low : a % m < m = mod-lt a some in
    let few : a / m < k = lt_of_mul-lt-mul_right m (omega arith) in
    turned (k - 1 - a / m) (a / m) (a % m) (omega arith) split low
  where
    turned : (t q r : ℕ) → k ≡ q + 1 + t → q * m + r ≡ a → r < m → (k * m - suc a) % m ≡ m - 1 - r
    turned t q r e split low =
        let whole : k * m ≡ (q + 1 + t) * m = ap (λ x. x * m) e in
        let sum : k * m - suc a ≡ t * m + (m - 1 - r) = omega arith in
        ap (λ x. x % m) sum ∙ mod-mul-add t m (m - 1 - r) (omega arith)

pub low_bits_are : (n : ℕ) (v : ℤ) (m : ℕ) → n ≤ 64 → FitsSigned w128 v → m ≡ 2 ^ n - 1 → bit_and (of_z w128 v) m ≡ wrap_to_unsigned n v
low_bits_are n (pos a) m l f e = ap (bit_and a) e ∙ and_mask a n
low_bits_are n (negsuc a) m l f e =
    let i : (128 - n) + n ≡ 128 = omega arith in
    let p : 2 ^ 128 ≡ 2 ^ (128 - n) * 2 ^ n = ap (λ x. 2 ^ x) (sym i) ∙ pow-add 2 (128 - n) n in
    let few : a < 2 ^ (128 - n) * 2 ^ n = omega (arith, f.sfits, p) in
    ap (bit_and (2 ^ 128 - suc a)) e ∙ and_mask (2 ^ 128 - suc a) n ∙ ap (λ x. (x - suc a) % 2 ^ n) p ∙ turned_rest (2 ^ (128 - n)) (2 ^ n) a (pow_pos n) few
