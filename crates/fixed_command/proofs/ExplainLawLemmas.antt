-- At most one byte is the first that makes a numeral invalid, and an overflow has one explanation.
use Rattle.std.proofs.Common.{◌≡◌, ◌∙◌, ◌==◌, ◌≤◌, ◌++◌, ℕ, ℤ, List, [], ap, arith, if◌then◌else◌, inl, inr, sym, ⊎_elim}
use Rattle.std.proofs.lemmas.Bool.{cases_lt}
use Rattle.fixed_command.specs.Explained.{BytesAreTheOnes, IsInvalidPlace, IsMovedText, IsPlaceOrZero, IsReachedText}
use Rattle.fixed_command.specs.Explained.{OverflowIsTheOne, field_hint, field_place, field_place_text, looked_at, overflow_text, place_text}
use Rattle.fixed_command.specs.Hints.{hint_of}
use Rattle.fixed_command.specs.declared.convert.Settings.{Settings}

not_before : (m : List ℕ) (s : Settings) (bytes : List ℕ) (p q : ℕ) → IsInvalidPlace m s bytes p → IsInvalidPlace m s bytes q → q ≤ p
not_before m s bytes p q x y = ⊎_elim (λ low. absurd (y.before p x.some (omega (arith, low)) x.invalid)) (λ high. high) (cases_lt p q)

place_one : (m : List ℕ) (s : Settings) (bytes : List ℕ) (p q : ℕ) → IsPlaceOrZero m s bytes p → IsPlaceOrZero m s bytes q → p ≡ q
place_one m s bytes p q (inl x) (inl y) = omega (arith, not_before m s bytes p q x y, not_before m s bytes q p y x)
place_one m s bytes p q (inl x) (inr y) = absurd (y.1 p x.some x.within x.invalid)
place_one m s bytes p q (inr x) (inl y) = absurd (x.1 q y.some y.within y.invalid)
place_one m s bytes p q (inr x) (inr y) = x.0 ∙ sym y.0

pub bytes_one : BytesAreTheOnes
bytes_one = record {
  numeral = λ m has s bytes before a b x y.
      x.2 ∙ (ap (λ place. if place == 0 then [] else place_text bytes place before ++ hint_of has s.spelling s.radix bytes place)
      (place_one m s bytes x.0 y.0 x.1 y.1) ∙ sym y.2);
  field = λ m has s form field a b x y.
      x.2 ∙ (ap (λ place. if place == 0 then [] else field_place_text field (field_place form field place) ++ field_hint has s form field place)
      (place_one m s (looked_at form field) x.0 y.0 x.1 y.1) ∙ sym y.2);
}

-- ---- overflows
reached_one : (number : ℤ) (frac : ℕ) (a b : List ℕ) → IsReachedText number frac a → IsReachedText number frac b → a ≡ b
reached_one number frac a b (inl x) (inl y) = x.1 ∙ sym y.1
reached_one number frac a b (inl x) (inr y) = absurd (y.0 x.0)
reached_one number frac a b (inr x) (inl y) = absurd (x.0 y.0)
reached_one number frac a b (inr x) (inr y) = x.1 ∙ sym y.1

moved_text_one : (number : ℤ) (from : ℕ) (moved : ℤ) (to : ℕ) (a b : List ℕ) → IsMovedText number from moved to a
    → IsMovedText number from moved to b → a ≡ b
moved_text_one number from moved to a b x y = ⊎_elim (λ less. reached_one moved to a b (x.1 less) (y.1 less))
    (λ same. x.0 same ∙ sym (y.0 same)) (cases_lt to from)

pub overflow_one : OverflowIsTheOne
overflow_one s numeral a b x y = (
  λ number past. let u : _ = x.source number past in let v : _ = y.source number past in
      u.2 ∙ (ap (λ t. overflow_text t s.source) (reached_one number s.source.frac u.0 v.0 u.1 v.1) ∙ sym v.2),
  λ number moved past. let u : _ = x.target number moved past in let v : _ = y.target number moved past in
      u.2 ∙ (ap (λ t. overflow_text t s.target)
      (moved_text_one number s.source.frac moved s.target.frac u.0 v.0 u.1 v.1) ∙ sym v.2),
)
