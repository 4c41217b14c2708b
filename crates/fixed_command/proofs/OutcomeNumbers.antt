-- The test of multiples: a multiple is its quotient times the divisor.
use Rattle.std.proofs.Common.{◌≡◌, ◌∙◌, ◌↔◌, ◌<◌, ◌*◌, ◌/◌, ◌==◌, ◌&&◌, ℕ, Bool, true, false, IsTrue, refl, sym, ap, arith, true≢false}
use Rattle.std.proofs.Math.Nat.{mul-div_cancel}
use Rattle.std.proofs.lemmas.Bool.{eqb-true}
use Rattle.std.proofs.lemmas.Bool.Decides.{nat_tests}
use Rattle.fixed_read.specs.Reading.{IsMultipleOf}

whole_again : (n d : ℕ) → 0 < d → IsMultipleOf d n → n / d * d ≡ n
whole_again n d some is = ap (λ m. m / d * d) is.1 ∙ (ap (λ m. m * d) (mul-div_cancel is.0 some) ∙ sym is.1)

equal : (m n : ℕ) → m ≡ n → (m == n) ≡ true
equal m n e = grind (arith, nat_tests)

pub is_multiple_of : (n d : ℕ) → 0 < d → (b : Bool) → b ≡ (n / d * d == n) → IsTrue b ↔ IsMultipleOf d n
is_multiple_of n d some b same = (
  (λ t. (n / d, sym (eqb-true (n / d * d) n (sym same ∙ t)))),
  (λ is. same ∙ equal (n / d * d) n (whole_again n d some is)),
)

-- ---- two tests together
both_true : (w m : Bool) → IsTrue w → IsTrue m → IsTrue (w && m)
both_true true true x y = refl
both_true true false x y = absurd (true≢false (sym y))
both_true false m x y = absurd (true≢false (sym x))

each_true : (w m : Bool) → IsTrue (w && m) → IsTrue w × IsTrue m
each_true true true x = (refl, refl)
each_true true false x = absurd (true≢false (sym x))
each_true false m x = absurd (true≢false (sym x))

pub both_are : (w m b : Bool) (P Q : Type 0) → b ≡ (w && m) → (IsTrue w ↔ P) → (IsTrue m ↔ Q) → IsTrue b ↔ (P × Q)
both_are w m b P Q same p q = (
  (λ t. let each = each_true w m (sym same ∙ t) in (p.0 each.0, q.0 each.1)),
  (λ is. same ∙ both_true w m (p.1 is.0) (q.1 is.1)),
)
