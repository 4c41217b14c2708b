-- Lemmas for the proofs of dependent crates.
use Rattle.std.specs.Prelude.{◌≡◌, ℕ, ◌<◌, ◌-◌, ◌^◌, ◌||◌, true, eqb, List, [], ◌∷◌, ◌++◌, length, get_or}
use Rattle.line_engine.specs.AnswerText.{AnswerText}
use Rattle.line_engine.specs.Failures.{HasFailed}
use Rattle.line_engine.specs.Lines.{ended_lines, unended}
use Rattle.line_engine.specs.Output.{AreAnswers, any_fault, written_of}
use Rattle.line_engine.specs.RunLaws.{OutputIsTheOne, RunEndIsTheOne, WholeOutputIsTheOne}
use Rattle.line_engine.proofs.AnsweredLemmas
use Rattle.line_engine.proofs.LineLemmas
use Rattle.line_engine.proofs.RunLawLemmas
-- lemmas that other engines share
pub use Rattle.line_engine.proofs.AnsweredLemmas.{bytes_in-append}
pub use Rattle.line_engine.proofs.AskedLemmas.{AskedSoFar, so_far_more, so_far_none, so_far_within}
pub use Rattle.line_engine.proofs.ChunkLemmas.{
  ended_lines_line,
  ended_lines_quiet,
  kept_unended,
  none_kept,
  nothing_kept,
  one_last,
  part_kept,
  take_kept,
  ten,
  unended_line,
  unended_quiet,
  whole_part,
}
pub use Rattle.line_engine.proofs.CompleteLemmas.{complete, part_of_output}
pub use Rattle.line_engine.proofs.LineLemmas.{
  ended_lines-append,
  ended_lines-quiet_cons,
  ended_newline,
  ended_other,
  unended-append,
  unended_newline,
  unended_other,
}
pub use Rattle.line_engine.proofs.PrefixLemmas.{part_first}
pub use Rattle.line_engine.proofs.RefusalLemmas.{product_one}
pub use Rattle.line_engine.proofs.TakenLemmas.{Consumes-kept, Consumes-none, all_taken, few_taken}

-- ---- answers to some lines, and to the lines after them
pub AreAnswers-append : (A : List ℕ → AnswerText → Type 0) (lines more : List (List ℕ)) (replies others : List AnswerText) → AreAnswers A lines replies → AreAnswers A more others → AreAnswers A (lines ++ more) (replies ++ others)
AreAnswers-append = AnsweredLemmas.AreAnswers-append

pub any_fault-append : (replies more : List AnswerText) → any_fault (replies ++ more) ≡ (any_fault replies || any_fault more)
any_fault-append = AnsweredLemmas.any_fault-append

pub written_of-append : (replies more : List AnswerText) → written_of (replies ++ more) ≡ written_of replies ++ written_of more
written_of-append = AnsweredLemmas.written_of-append

-- lines have one list of answers if each line has one answer
pub answers_one : (A : List ℕ → AnswerText → Type 0) → ((line : List ℕ) (a b : AnswerText) → A line a → A line b → a ≡ b) → (ls : List (List ℕ)) (xs ys : List AnswerText) → AreAnswers A ls xs → AreAnswers A ls ys → xs ≡ ys
answers_one = RunLawLemmas.answers_one

-- their input then has one output and one status
pub output_one : (A : List ℕ → AnswerText → Type 0) → ((line : List ℕ) (a b : AnswerText) → A line a → A line b → a ≡ b) → OutputIsTheOne A
output_one = RunLawLemmas.output_one

-- and a run over the lines one end
pub run_end_one : (A : List ℕ → AnswerText → Type 0) → ((line : List ℕ) (a b : AnswerText) → A line a → A line b → a ≡ b) → RunEndIsTheOne A
run_end_one = RunLawLemmas.run_end_one

pub whole_output_one : (A : List ℕ → AnswerText → Type 0) → ((input : List ℕ) (a b : AnswerText) → A input a → A input b → a ≡ b) → WholeOutputIsTheOne A
whole_output_one = RunLawLemmas.whole_output_one

-- a call did not fail if the count of failures can rise and did not
pub not_failed : (before now : ℕ) → before < 2 ^ 64 - 1 → now ≡ before → HasFailed before now → ⊥
not_failed = RunLawLemmas.not_failed

-- ---- lines
-- no line ends in bytes without a newline
pub ended_lines_without : (xs : List ℕ) → ((k : ℕ) → k < length xs → eqb (get_or xs k 0) 10 ≡ true → ⊥) → ended_lines xs ≡ []
ended_lines_without = LineLemmas.ended_lines_without

-- bytes in which no line ends are unended as a whole
pub unended_none : (xs : List ℕ) → ended_lines xs ≡ [] → unended xs ≡ xs
unended_none = LineLemmas.unended_none

-- a newline after such bytes ends a line
pub ended_lines_at : (xs ys : List ℕ) → ended_lines xs ≡ [] → ended_lines (xs ++ 10 ∷ ys) ≡ xs ∷ ended_lines ys
ended_lines_at = LineLemmas.ended_lines_at

pub unended_at : (xs ys : List ℕ) → ended_lines xs ≡ [] → unended (xs ++ 10 ∷ ys) ≡ unended ys
unended_at = LineLemmas.unended_at
