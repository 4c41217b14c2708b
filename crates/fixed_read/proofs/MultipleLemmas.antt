-- Multiples of a denominator.
use Rattle.std.proofs.Common.{◌≡◌, ℕ, ◌+◌, ◌*◌, ◌<◌, ◌≤◌, ◌↔◌, ap, sym, ◌∙◌, arith, ⊎_elim, mul-le-mul_right}
use Rattle.std.proofs.lemmas.Bool.{cases_lt}
use Rattle.fixed_read.specs.Reading.{IsMultipleOf}

-- ---- a positive factor cancels
pub cancel_eq : (a b d : ℕ) → 0 < d → a * d ≡ b * d → a ≡ b
cancel_eq a b d p e = ⊎_elim
    (λ (l : a < b). absurd (omega (arith, mul-le-mul_right d (let z : a + 1 ≤ b = omega arith in z))))
    (λ (l : b ≤ a). ⊎_elim
    (λ (k : b < a). absurd (omega (arith, mul-le-mul_right d (let z : b + 1 ≤ a = omega arith in z))))
    (λ (k : a ≤ b). omega arith)
    (cases_lt b a))
    (cases_lt a b)

-- ---- the rest of a division is 0 exactly for multiples of the divisor
pub exact_rest : (a x q d s : ℕ) → 0 < x → 0 < d → s < d → a * d ≡ (q * d + s) * x → (s ≡ 0) ↔ IsMultipleOf x a
exact_rest a x q d s px pd small e = (
  λ z. (q, cancel_eq a (q * x) d pd (let one : (q * d + s) * x ≡ q * x * d = rw z (omega arith) in e ∙ one)),
  λ (k, m). rest k (cancel_eq (k * d) (q * d + s) x px (let one : k * d * x ≡ a * d = omega (arith, ap (λ y. y * d) m) in one ∙ e)),
)
  where
    rest : (k : ℕ) → k * d ≡ q * d + s → s ≡ 0
    rest k h = ⊎_elim
        (λ (l : q < k). absurd (omega (arith, mul-le-mul_right d (let z : q + 1 ≤ k = omega arith in z))))
        (λ (l : k ≤ q). omega (arith, mul-le-mul_right d l))
        (cases_lt q k)

-- ---- two equal fractions are both whole numbers or neither is
pub multiple_same : (n d m k : ℕ) → 0 < d → n * k ≡ m * d → IsMultipleOf d n → IsMultipleOf k m
multiple_same n d m k p e (q, h) = (q, cancel_eq m (q * k) d p (let one : n * k ≡ q * k * d = omega (arith, ap (λ x. x * k) h) in sym e ∙ one))
