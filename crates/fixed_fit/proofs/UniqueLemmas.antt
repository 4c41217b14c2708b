-- An input has at most one answer.
use Rattle.std.proofs.Common.{◌≡◌, ℕ, ◌+◌, ◌<◌, ◌≤◌, ◌⊎◌, Bool, true, false, List, [], ◌∷◌, ◌++◌, length, refl, sym, ap, ◌∙◌, subst, arith, inl, inr, ⊎_elim}
use Rattle.std.specs.Prelude.{codes}
use Rattle.std.proofs.lemmas.Bool.{cases_lt}
use Rattle.fixed_least.specs.Holding.{AllNumerals}
use Rattle.fixed_least.specs.Least.{IsFaultAnswer}
use Rattle.fixed_least.specs.Lemmas.LeastLemmas.{answer_one}
use Rattle.fixed_numeral.specs.Numeral.{IsNumeral}
use Rattle.fixed_numeral.specs.declared.radix.Radix.{Radix}
use Rattle.line_engine.specs.AnswerText.{AnswerText}
use Rattle.line_engine.specs.Lines.{lines}
use Rattle.fixed_fit.specs.Answer.{IsFoundAnswer, IsNoneAnswer, IsReason, format_of, name_of, none_line, ruled_out_line}
use Rattle.fixed_fit.specs.ErrorWord.{IsErrorWord}
use Rattle.fixed_fit.specs.Fitting.{AllFit, Exceeds, Fits, IsFinest, IsFirstExceeding, MayBeChosen, choice, frac_lengths}
use Rattle.fixed_fit.specs.Laws.{AnswerIsTheOne}
use Rattle.fixed_fit.specs.declared.question.Question.{Question}
use Rattle.fixed_fit.proofs.ErrorWordLemmas.{word_one}
use Rattle.fixed_fit.proofs.FittingLemmas.{all_fit_each_shorter, exceeding_not, finest_is_the_one, not_both, sign_rule_is_the_one}

-- only one line is the first that is out of range
first_one : (r : Radix) (s : Bool) (n f : ℕ) (before before' : List (List ℕ)) (line line' : List ℕ) (after after' : List (List ℕ)) → before ++ line ∷ after ≡ before' ++ line' ∷ after'
    → AllFit r s n f before → AllFit r s n f before' → Exceeds r s n f line → Exceeds r s n f line' → length before ≡ length before'
first_one r s n f [] [] line line' after after' e x y b b' = refl
first_one r s n f [] (l ∷ ls) line line' after after' e x y b b' = let same : l ≡ line = cc in absurd (not_both r s n f line (subst (Fits r s n f) same y.0) b)
first_one r s n f (l ∷ ls) [] line line' after after' e x y b b' = let same : l ≡ line' = cc in absurd (not_both r s n f line' (subst (Fits r s n f) same x.0) b')
first_one r s n f (l ∷ ls) (k ∷ ks) line line' after after' e x y b b' =
    let tail : ls ++ line ∷ after ≡ ks ++ line' ∷ after' = cc in
    omega (arith, first_one r s n f ls ks line line' after after' tail x.1 y.1 b b')

place_one : (r : Radix) (s : Bool) (n f : ℕ) (list : List (List ℕ)) (p q : ℕ) → IsFirstExceeding r s n f list p → IsFirstExceeding r s n f list q → p ≡ q
place_one r s n f list p q a b =
    let same : length a.before ≡ length b.before = first_one r s n f a.before b.before a.line b.line a.after b.after (sym a.split ∙ b.split) a.fit b.fit a.exceeds b.exceeds in
    omega (arith, a.place_is, b.place_is, same)

pub reason_one : (q : Question) (s : Bool) (list : List (List ℕ)) (f : ℕ) (t u : List ℕ) → IsReason q s list f t → IsReason q s list f u → t ≡ u
reason_one q s list f t u x y = by q.is_reason_asked refl
  where
    by : (asked : Bool) → q.is_reason_asked ≡ asked → t ≡ u
    by false e = x.unasked e ∙ sym (y.unasked e)
    by true e =
        ⊎_elim
        (λ (less : f + 1 < frac_lengths q.fractions q.kind.width).
        let a = x.next e less in
        let b = y.next e less in
        a.2 ∙ (ap (λ p. ruled_out_line s q.kind.width (f + 1) p) (place_one q.radix s q.kind.width (f + 1) list a.0 b.0 a.1 b.1) ∙ sym b.2))
        (λ (past : frac_lengths q.fractions q.kind.width ≤ f + 1). let none : ¬ MayBeChosen (choice s q.fractions) q.kind.width (f + 1) = λ less. omega (arith, past, less) in x.no_next none ∙ sym (y.no_next none))
        (cases_lt (f + 1) (frac_lengths q.fractions q.kind.width))

pub answer_is : (a b : AnswerText) → a.text ≡ b.text → a.fault ≡ b.fault → a ≡ b
answer_is a b t f =
    let R : List ℕ → Bool → AnswerText = λ x y. record { text = x; fault = y } in
    ap (λ x. R x a.fault) t ∙ ap (λ y. R b.text y) f

found_one : (q : Question) (list : List (List ℕ)) (a b : AnswerText) → IsFoundAnswer q list a → IsFoundAnswer q list b → a ≡ b
found_one q list a b x y =
    let n : ℕ = q.kind.width in
    let s : x.signed ≡ y.signed = sign_rule_is_the_one q.radix q.kind.signed x.signed y.signed list x.sign y.sign in
    let F : Bool → Type 0 = λ t. IsFinest q.radix (choice t q.fractions) n list x.frac in
    let f : x.frac ≡ y.frac = finest_is_the_one q.radix (choice y.signed q.fractions) n x.frac y.frac list (subst F s x.finest) y.finest in
    let R : Bool → Type 0 = λ t. IsReason q t list x.frac x.reason in
    let G : ℕ → Type 0 = λ g. IsReason q y.signed list g x.reason in
    let W : Bool → Type 0 = λ t. IsErrorWord q.is_range q.radix (format_of t n x.frac) list x.error in
    let V : ℕ → Type 0 = λ g. IsErrorWord q.is_range q.radix (format_of y.signed n g) list x.error in
    let w : x.error ≡ y.error = word_one q.is_range q.radix (format_of y.signed n y.frac) list x.error y.error (subst V f (subst W s x.is_error)) y.is_error in
    let t : x.reason ≡ y.reason = reason_one q y.signed list y.frac x.reason y.reason (subst G f (subst R s x.is_reason)) y.is_reason in
    answer_is a b
    (x.text ∙ (ap (λ u. named u x.frac x.error x.reason) s ∙ (ap (λ g. named y.signed g x.error x.reason) f ∙ (ap (λ e. named y.signed y.frac e x.reason) w ∙ (ap (λ z. named y.signed y.frac y.error z) t ∙ sym y.text)))))
    (x.fault ∙ sym y.fault)
  where
    named : Bool → ℕ → List ℕ → List ℕ → List ℕ
    named s f error reason = name_of s q.kind.width f ++ (codes " error " ++ (error ++ 10 ∷ reason))

none_one : (q : Question) (list : List (List ℕ)) (a b : AnswerText) → IsNoneAnswer q list a → IsNoneAnswer q list b → a ≡ b
none_one q list a b x y =
    let s : x.signed ≡ y.signed = sign_rule_is_the_one q.radix q.kind.signed x.signed y.signed list x.sign y.sign in
    let F : Bool → Type 0 = λ t. IsFirstExceeding q.radix t q.kind.width 0 list x.place in
    let all : ℕ = frac_lengths q.fractions q.kind.width in
    let p : x.place ≡ y.place = ⊎_elim
    (λ (some : 0 < all). place_one q.radix y.signed q.kind.width 0 list x.place y.place (subst F s (x.first some)) (y.first some))
    (λ (none : all ≤ 0). x.never (λ some. omega (arith, none, some)) ∙ sym (y.never (λ some. omega (arith, none, some))))
    (cases_lt 0 all) in
    answer_is a b (x.text ∙ (ap none_line p ∙ sym y.text)) (x.fault ∙ sym y.fault)

found_not_none : (q : Question) (list : List (List ℕ)) (a b : AnswerText) → IsFoundAnswer q list a → IsNoneAnswer q list b → ⊥
found_not_none q list a b x y =
    let s : x.signed ≡ y.signed = sign_rule_is_the_one q.radix q.kind.signed x.signed y.signed list x.sign y.sign in
    let F : Bool → Type 0 = λ t. IsFinest q.radix (choice t q.fractions) q.kind.width list x.frac in
    let finest : IsFinest q.radix (choice y.signed q.fractions) q.kind.width list x.frac = subst F s x.finest in
    let chosen = finest.chosen in
    exceeding_not q.radix y.signed q.kind.width 0 list y.place (y.first (omega (arith, chosen))) (all_fit_each_shorter q.radix y.signed q.kind.width x.frac 0 list (omega arith) finest.fit)

numeral_at : (r : Radix) (before : List (List ℕ)) (line : List ℕ) (after : List (List ℕ)) → AllNumerals r (before ++ line ∷ after) → IsNumeral r line
numeral_at r [] line after all = all.0
numeral_at r (first ∷ before) line after all = numeral_at r before line after all.1

pub not_fault : (r : Radix) (input : List ℕ) (a : AnswerText) → AllNumerals r (lines input) → IsFaultAnswer r input a → ⊥
not_fault r input a all h =
    let P : List (List ℕ) → Type 0 = λ l. AllNumerals r l in
    h.is_none.cause.none (numeral_at r h.is_none.before h.is_none.line h.is_none.after (subst P h.is_none.split all))

numerals_of : (q : Question) (list : List (List ℕ)) (a : AnswerText) → IsFoundAnswer q list a ⊎ IsNoneAnswer q list a → AllNumerals q.radix list
numerals_of q list a (inl x) = x.numerals
numerals_of q list a (inr x) = x.numerals

pub answer_is_the_one : AnswerIsTheOne
answer_is_the_one q input a b (inl x) (inl y) = answer_one q.radix input a b (inr x) (inr y)
answer_is_the_one q input a b (inl x) (inr y) = absurd (not_fault q.radix input a (numerals_of q (lines input) b y) x)
answer_is_the_one q input a b (inr x) (inl y) = absurd (not_fault q.radix input b (numerals_of q (lines input) a x) y)
answer_is_the_one q input a b (inr (inl x)) (inr (inl y)) = found_one q (lines input) a b x y
answer_is_the_one q input a b (inr (inl x)) (inr (inr y)) = absurd (found_not_none q (lines input) a b x y)
answer_is_the_one q input a b (inr (inr x)) (inr (inl y)) = absurd (found_not_none q (lines input) b a y x)
answer_is_the_one q input a b (inr (inr x)) (inr (inr y)) = none_one q (lines input) a b x y
