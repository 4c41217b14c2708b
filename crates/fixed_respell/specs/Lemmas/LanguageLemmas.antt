-- In a language of lines, a line has one answer, and a line that is too long is answered like its prefix.
use Rattle.std.proofs.Common.{◌≡◌, ℕ, ◌<◌, List, length, take, sym, ap, ◌∙◌, subst, arith, inl, inr, ◌↔◌, length-take}
use Rattle.fixed_respell.specs.Language.{Language, IsAnswerIn, IsFaultAnswer, IsTaskAnswer, fault_answer}
use Rattle.fixed_respell.specs.LineWords.{longest_line}
use Rattle.line_engine.specs.AnswerText.{AnswerText}
use Rattle.fixed_respell.specs.Lemmas.LineWordLemmas.{RanksTellApart, first_one}

-- faults differ in their ranks, a line with a task has no fault and no other task, and a task has one answer
pub record IsDefinite (L : Language) : Type 0 where
  pub apart : RanksTellApart L.Fault L.rank
  pub no_fault : (line : List ℕ) (t : L.Task) (f : L.Fault) → L.Asks line t → L.HasFault f line → ⊥
  pub task_one : (line : List ℕ) (t u : L.Task) → L.Asks line t → L.Asks line u → t ≡ u
  pub answer_one : (line : List ℕ) (t : L.Task) (a b : AnswerText) → L.Asks line t → L.IsAnswered t a → L.IsAnswered t b
      → a ≡ b

faults : (L : Language) → IsDefinite L → (line : List ℕ) (a b : AnswerText) → IsFaultAnswer L line a
    → IsFaultAnswer L line b → a ≡ b
faults L definite line a b x y =
    x.answer_is ∙ (ap (λ f. fault_answer (L.message f)) (first_one L.Fault L.rank
    (λ f. L.HasFault f line) definite.apart x.fault y.fault x.first y.first) ∙ sym y.answer_is)

tasks : (L : Language) → IsDefinite L → (line : List ℕ) (a b : AnswerText) → IsTaskAnswer L line a
    → IsTaskAnswer L line b → a ≡ b
tasks L definite line a b x y =
    let same : x.task ≡ y.task = definite.task_one line x.task y.task x.asks y.asks in
    definite.answer_one line y.task a b y.asks (subst (λ t. L.IsAnswered t a) same x.answered) y.answered

-- a line has at most one answer
pub answer_in_one : (L : Language) → IsDefinite L → (line : List ℕ) (a b : AnswerText) → IsAnswerIn L line a
    → IsAnswerIn L line b → a ≡ b
answer_in_one L definite line a b (inl x) (inl y) = faults L definite line a b x y
answer_in_one L definite line a b (inl x) (inr y) = absurd (definite.no_fault line y.task x.fault y.asks x.first.has)
answer_in_one L definite line a b (inr x) (inl y) = absurd (definite.no_fault line x.task y.fault x.asks y.first.has)
answer_in_one L definite line a b (inr x) (inr y) = tasks L definite line a b x y

-- if all lines that are too long have the same answer, each is answered like its prefixes that are too long
carried : (A : List ℕ → AnswerText → Type 0) (long : AnswerText)
    → ((line : List ℕ) (a b : AnswerText) → A line a → A line b → a ≡ b)
    → ((line : List ℕ) → longest_line < length line → A line long)
    → (line other : List ℕ) (reply : AnswerText) → longest_line < length line → longest_line < length other
    → A other reply → A line reply
carried A long one all line other reply past past' is = subst (λ r. A line r)
    (one other long reply (all other past') is) (all line past)

pub long_by_prefix : (A : List ℕ → AnswerText → Type 0) (long : AnswerText)
    → ((line : List ℕ) (a b : AnswerText) → A line a → A line b → a ≡ b)
    → ((line : List ℕ) → longest_line < length line → A line long)
    → (n : ℕ) (line : List ℕ) (reply : AnswerText) → longest_line < n → n < length line → A (take n line) reply
    ↔ A line reply
long_by_prefix A long one all n line reply past longer =
    let whole : longest_line < length line = omega arith in
    let prefix : longest_line < length (take n line) = omega (arith, length-take n line) in (
      carried A long one all line (take n line) reply whole prefix,
      carried A long one all (take n line) line reply prefix whole,
    )
