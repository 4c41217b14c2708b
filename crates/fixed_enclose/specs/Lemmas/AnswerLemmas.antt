-- A line has one answer.
use Rattle.std.proofs.Common.{◌≡◌, ℕ, ◌<◌, List, [], Bool, true, false, IsTrue, length, get_or, refl, sym, ap, ◌∙◌}
use Rattle.std.proofs.Common.{subst, arith, ℤ, inl, inr, ◌↔◌}
use Rattle.std.proofs.lemmas.Bool.{false≢true}
use Rattle.fixed_numeral.specs.Messages.{message_of}
use Rattle.fixed_respell.specs.Language.{fault_answer}
use Rattle.fixed_respell.specs.LineWords.{longest_line}
use Rattle.fixed_respell.specs.Words.{IsFormatWord}
use Rattle.fixed_respell.specs.Lemmas.AnswerLemmas.{format_word_one, radix_one}
use Rattle.fixed_respell.specs.Lemmas.LanguageLemmas.{IsDefinite, answer_in_one, long_by_prefix}
use Rattle.fixed_respell.specs.Lemmas.LineWordLemmas.{words_one}
use Rattle.fixed_write.specs.Texts.{IsShortestText}
use Rattle.fixed_write.proofs.Public.{shortest_text_unique}
use Rattle.line_engine.specs.AnswerText.{AnswerText}
use Rattle.line_engine.specs.Lines.{kept_length}
use Rattle.fixed_enclose.specs.Answer.{Asks, IsAnswer, IsEnclosedAnswer, IsRefusalAnswer, IsTaskAnswered, Task}
use Rattle.fixed_enclose.specs.Answer.{enclose_language, ends_answer, fault_message, task_of}
use Rattle.fixed_enclose.specs.Laws.{AnswerIsTheOne, LongIsAnsweredByPrefix}
use Rattle.fixed_enclose.specs.declared.fault.EncloseFault.TheVariants.{LineTooLong}
use Rattle.fixed_enclose.specs.Lemmas.EnclosureLemmas.{enclosed_one, refusal_none, refusal_one}
use Rattle.fixed_enclose.specs.Lemmas.FaultLemmas.{faults_apart, first_long, no_fault}

task_is : (t u : Task) → t.radix ≡ u.radix → t.format ≡ u.format → t.numeral ≡ u.numeral → t ≡ u
task_is t u r f n =
    ap (λ x. task_of x t.format t.numeral) r
    ∙ (ap (λ x. task_of u.radix x t.numeral) f
    ∙ ap (λ x. task_of u.radix u.format x) n)

-- a line asks for one task
task_one : (line : List ℕ) (t u : Task) → Asks line t → Asks line u → t ≡ u
task_one line t u a b =
    let same = words_one line _ _ t.numeral u.numeral a.words b.words refl in
    let radix : a.radix_word ≡ b.radix_word = ap (λ ws. get_or ws 0 []) same.words in
    let format : a.format_word ≡ b.format_word = ap (λ ws. get_or ws 1 []) same.words in
    task_is t u
    (radix_one t.radix u.radix (sym a.radix ∙ (radix ∙ b.radix)))
    (format_word_one b.format_word t.format u.format (subst (λ w. IsFormatWord w t.format) format a.format) b.format)
    same.rests

-- ---- a task has one answer
refusals : (t : Task) (a b : AnswerText) → IsRefusalAnswer t a → IsRefusalAnswer t b → a ≡ b
refusals t a b x y = x.answer_is ∙ (ap (λ k. fault_answer (message_of k))
    (refusal_one t.radix t.numeral t.format x.kind y.kind x.refusal y.refusal) ∙ sym y.answer_is)

refused_or_not : (t : Task) (a b : AnswerText) → IsRefusalAnswer t a → IsEnclosedAnswer t b → ⊥
refused_or_not t a b x y = refusal_none t.radix t.numeral t.format y.lo y.hi x.kind y.enclosed x.refusal

-- two verdicts on the same two numbers are the same
verdict_one : (a b : Bool) (lo hi lo' hi' : ℤ) → lo ≡ lo' → hi ≡ hi' → (IsTrue a ↔ (lo ≡ hi)) → (IsTrue b ↔ (lo' ≡ hi'))
    → a ≡ b
verdict_one true true lo hi lo' hi' e f x y = refl
verdict_one false false lo hi lo' hi' e f x y = refl
verdict_one true false lo hi lo' hi' e f x y = absurd (false≢true (y.1 (sym e ∙ (x.0 refl ∙ f))))
verdict_one false true lo hi lo' hi' e f x y = absurd (false≢true (x.1 (e ∙ (y.0 refl ∙ sym f))))

enclosures : (t : Task) (a b : AnswerText) → IsEnclosedAnswer t a → IsEnclosedAnswer t b → a ≡ b
enclosures t a b x y =
    let ends = enclosed_one t.radix t.numeral t.format x.lo x.hi y.lo y.hi x.enclosed y.enclosed in
    let low = shortest_text_unique y.lo t.format.frac x.low_text y.low_text
    (subst (λ c. IsShortestText c t.format.frac x.low_text) ends.0 x.low_shortest) y.low_shortest in
    let high = shortest_text_unique y.hi t.format.frac x.high_text y.high_text
    (subst (λ c. IsShortestText c t.format.frac x.high_text) ends.1 x.high_shortest) y.high_shortest in
    let exact = verdict_one x.exact y.exact x.lo x.hi y.lo y.hi ends.0 ends.1 x.is_exact y.is_exact in
    x.answer_is ∙ (alike x.low_text y.low_text x.high_text y.high_text x.lo y.lo x.hi y.hi x.exact y.exact low ends.0
    high ends.1 exact ∙ sym y.answer_is)
  where
    alike : (s s' t t' : List ℕ) (l l' h h' : ℤ) (e e' : Bool) → s ≡ s' → l ≡ l' → t ≡ t' → h ≡ h' → e ≡ e'
        → ends_answer s l t h e ≡ ends_answer s' l' t' h' e'
    alike s s' t t' l l' h h' e e' p q r u v =
        ap (λ x. ends_answer x l t h e) p
        ∙ (ap (λ x. ends_answer s' x t h e) q
        ∙ (ap (λ x. ends_answer s' l' x h e) r
        ∙ (ap (λ x. ends_answer s' l' t' x e) u
        ∙ ap (λ x. ends_answer s' l' t' h' x) v)))

task_answer_one : (line : List ℕ) (t : Task) (a b : AnswerText) → Asks line t → IsTaskAnswered t a → IsTaskAnswered t b
    → a ≡ b
task_answer_one line t a b asks (inl x) (inl y) = refusals t a b x y
task_answer_one line t a b asks (inl x) (inr y) = absurd (refused_or_not t a b x y)
task_answer_one line t a b asks (inr x) (inl y) = absurd (refused_or_not t b a y x)
task_answer_one line t a b asks (inr x) (inr y) = enclosures t a b x y

-- ---- a line has one answer
definite : IsDefinite enclose_language
definite = record { apart = faults_apart; no_fault = no_fault; task_one = task_one; answer_one = task_answer_one }

pub answer_one : AnswerIsTheOne
answer_one line a b x y = answer_in_one enclose_language definite line a b x y

long_answer : (line : List ℕ) → longest_line < length line → IsAnswer line (fault_answer (fault_message LineTooLong))
long_answer line long = inl (record { fault = LineTooLong; first = first_long line long; answer_is = refl })

pub long_by_its_prefix : LongIsAnsweredByPrefix
long_by_its_prefix line answer long = long_by_prefix IsAnswer
    (fault_answer (fault_message LineTooLong)) answer_one long_answer kept_length line answer (omega arith) long
