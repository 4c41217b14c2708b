-- An input has at most one answer within a bound.
use Rattle.std.proofs.Common.{◌≡◌, ℕ, ◌<◌, ◌≤◌, ◌⊎◌, Bool, true, false, List, ◌∷◌, ◌++◌, refl, sym, ap, ◌∙◌, subst, arith, inl, inr, ⊎_elim}
use Rattle.std.proofs.lemmas.Bool.{cases_lt}
use Rattle.std.specs.Prelude.{codes}
use Rattle.fixed_least.specs.Holding.{AllNumerals}
use Rattle.fixed_least.specs.Lemmas.LeastLemmas.{answer_one}
use Rattle.line_engine.specs.AnswerText.{AnswerText}
use Rattle.line_engine.specs.Lines.{lines}
use Rattle.fixed_fit.specs.Answer.{IsReason, format_of, name_of, none_line}
use Rattle.fixed_fit.specs.Bounded.{IsBoundedFound, IsBoundedNone, IsWidthReason, at_width, width_line}
use Rattle.fixed_fit.specs.Fitting.{choice}
use Rattle.fixed_fit.specs.Inner.Serving.{IsBelow}
use Rattle.fixed_fit.specs.ErrorWord.{IsErrorWord}
use Rattle.fixed_fit.specs.Laws.{BoundedAnswerIsTheOne, WidthReasonIsTheOne}
use Rattle.fixed_fit.specs.Within.{IsLeastWithin, IsNextBelow, IsUnservedFrom}
use Rattle.fixed_fit.specs.declared.question.Question.{Question}
use Rattle.fixed_fit.specs.declared.question.Widths.{Widths}
use Rattle.fixed_fit.specs.declared.question.Widths.TheVariants.{One}
use Rattle.fixed_fit.proofs.ServingLemmas.{some_below}
use Rattle.fixed_fit.proofs.ErrorWordLemmas.{word_one}
use Rattle.fixed_fit.proofs.FittingLemmas.{sign_rule_is_the_one}
use Rattle.fixed_fit.proofs.UniqueLemmas.{answer_is, not_fault, reason_one}
use Rattle.fixed_fit.proofs.WithinLemmas.{first_unserved_is_the_one, least_within_is_the_one, unserved_not}

pub width_reason_is_the_one : WidthReasonIsTheOne
width_reason_is_the_one q widths bound s list n t u tried x y =
    ⊎_elim
    (λ (more : 0 < below.0). by q.is_reason_asked refl (below.1.some more))
    (λ (past : below.0 ≤ 0). let none = below.1.none (omega (arith, past)) in x.no_lesser none ∙ sym (y.no_lesser none))
    (cases_lt 0 below.0)
  where
    below : (b : ℕ) × IsBelow widths q.kind.width n b
    below = some_below widths q.kind.width n tried

    by : (asked : Bool) → q.is_reason_asked ≡ asked → IsNextBelow widths q.kind.width n below.0 → t ≡ u
    by false e next = x.unasked e ∙ sym (y.unasked e)
    by true e next =
        let a = x.next e below.0 next in
        let b = y.next e below.0 next in
        a.2 ∙ (ap (λ (p : ℕ). width_line below.0 p) (first_unserved_is_the_one q.is_range q.radix (choice s q.fractions) bound One below.0 list a.0 b.0 a.1 b.1) ∙ sym b.2)

found_one : (q : Question) (widths : Widths) (bound : List ℕ) (list : List (List ℕ)) (a b : AnswerText) → IsBoundedFound q widths bound list a → IsBoundedFound q widths bound list b → a ≡ b
found_one q widths bound list a b x y =
    let s : x.signed ≡ y.signed = sign_rule_is_the_one q.radix q.kind.signed x.signed y.signed list x.sign y.sign in
    let same = least_within_is_the_one q.is_range q.radix (choice y.signed q.fractions) bound widths q.kind.width list x.width y.width x.frac y.frac (subst (λ t. IsLeastWithin q.is_range q.radix (choice t q.fractions) bound widths q.kind.width list x.width x.frac) s x.least) y.least in
    let E : Bool → ℕ → ℕ → Type 0 = λ t n f. IsErrorWord q.is_range q.radix (format_of t n f) list x.error in
    let e : E y.signed y.width y.frac = subst (λ f. E y.signed y.width f) same.1 (subst (λ n. E y.signed n x.frac) same.0 (subst (λ t. E t x.width x.frac) s x.is_error)) in
    let w : x.error ≡ y.error = word_one q.is_range q.radix (format_of y.signed y.width y.frac) list x.error y.error e y.is_error in
    let R : Bool → ℕ → ℕ → Type 0 = λ t n f. IsReason (at_width q n) t list f x.reason in
    let z : R y.signed y.width y.frac = subst (λ f. R y.signed y.width f) same.1 (subst (λ n. R y.signed n x.frac) same.0 (subst (λ t. R t x.width x.frac) s x.is_reason)) in
    let t : x.reason ≡ y.reason = reason_one (at_width q y.width) y.signed list y.frac x.reason y.reason z y.is_reason in
    let M : Bool → ℕ → Type 0 = λ t n. IsWidthReason q widths bound t list n x.lesser in
    let m : M y.signed y.width = subst (λ n. M y.signed n) same.0 (subst (λ t. M t x.width) s x.is_lesser) in
    let l : x.lesser ≡ y.lesser = width_reason_is_the_one q widths bound y.signed list y.width x.lesser y.lesser y.least.tried m y.is_lesser in
    let r : x.reason ++ x.lesser ≡ y.reason ++ y.lesser = ap (λ k. k ++ x.lesser) t ∙ ap (λ k. y.reason ++ k) l in
    answer_is a b
    (x.text ∙ (ap (λ u. named u x.width x.frac x.error (x.reason ++ x.lesser)) s ∙ (ap (λ n. named y.signed n x.frac x.error (x.reason ++ x.lesser)) same.0 ∙ (ap (λ f. named y.signed y.width f x.error (x.reason ++ x.lesser)) same.1 ∙ (ap (λ e. named y.signed y.width y.frac e (x.reason ++ x.lesser)) w ∙ (ap (λ k. named y.signed y.width y.frac y.error k) r ∙ sym y.text))))))
    (x.fault ∙ sym y.fault)
  where
    named : Bool → ℕ → ℕ → List ℕ → List ℕ → List ℕ
    named s n f error reason = name_of s n f ++ (codes " error " ++ (error ++ 10 ∷ reason))

none_one : (q : Question) (widths : Widths) (bound : List ℕ) (list : List (List ℕ)) (a b : AnswerText) → IsBoundedNone q widths bound list a → IsBoundedNone q widths bound list b → a ≡ b
none_one q widths bound list a b x y =
    let s : x.signed ≡ y.signed = sign_rule_is_the_one q.radix q.kind.signed x.signed y.signed list x.sign y.sign in
    let p : x.place ≡ y.place = first_unserved_is_the_one q.is_range q.radix (choice y.signed q.fractions) bound widths q.kind.width list x.place y.place (subst (λ t. IsUnservedFrom q.is_range q.radix (choice t q.fractions) bound widths q.kind.width list x.place) s x.first) y.first in
    answer_is a b (x.text ∙ (ap none_line p ∙ sym y.text)) (x.fault ∙ sym y.fault)

found_not_none : (q : Question) (widths : Widths) (bound : List ℕ) (list : List (List ℕ)) (a b : AnswerText) → IsBoundedFound q widths bound list a → IsBoundedNone q widths bound list b → ⊥
found_not_none q widths bound list a b x y =
    let s : x.signed ≡ y.signed = sign_rule_is_the_one q.radix q.kind.signed x.signed y.signed list x.sign y.sign in
    let least : IsLeastWithin q.is_range q.radix (choice y.signed q.fractions) bound widths q.kind.width list x.width x.frac = subst (λ t. IsLeastWithin q.is_range q.radix (choice t q.fractions) bound widths q.kind.width list x.width x.frac) s x.least in
    unserved_not q.is_range q.radix (choice y.signed q.fractions) bound widths q.kind.width list y.place y.first (record { width = x.width; tried = least.tried; frac = x.frac; serves = least.serves })

numerals_of : (q : Question) (widths : Widths) (bound : List ℕ) (list : List (List ℕ)) (a : AnswerText) → IsBoundedFound q widths bound list a ⊎ IsBoundedNone q widths bound list a → AllNumerals q.radix list
numerals_of q widths bound list a (inl x) = x.numerals
numerals_of q widths bound list a (inr x) = x.numerals

pub bounded_answer_is_the_one : BoundedAnswerIsTheOne
bounded_answer_is_the_one q widths bound input a b (inl x) (inl y) = answer_one q.radix input a b (inr x) (inr y)
bounded_answer_is_the_one q widths bound input a b (inl x) (inr y) = absurd (not_fault q.radix input a (numerals_of q widths bound (lines input) b y) x)
bounded_answer_is_the_one q widths bound input a b (inr x) (inl y) = absurd (not_fault q.radix input b (numerals_of q widths bound (lines input) a x) y)
bounded_answer_is_the_one q widths bound input a b (inr (inl x)) (inr (inl y)) = found_one q widths bound (lines input) a b x y
bounded_answer_is_the_one q widths bound input a b (inr (inl x)) (inr (inr y)) = absurd (found_not_none q widths bound (lines input) a b x y)
bounded_answer_is_the_one q widths bound input a b (inr (inr x)) (inr (inl y)) = absurd (found_not_none q widths bound (lines input) b a y x)
bounded_answer_is_the_one q widths bound input a b (inr (inr x)) (inr (inr y)) = none_one q widths bound (lines input) a b x y
