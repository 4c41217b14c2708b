-- Lemmas for the proofs of dependent crates.
use Rattle.std.proofs.Common.{◌≡◌, ◌≤◌, ◌++◌, true, List, ℕ, length, length-append, arith}
use Rattle.std.specs.Prelude.{codes}
use Rattle.line_engine.specs.AnswerText.{AnswerText}
use Rattle.line_engine.specs.Output.{AppendsAnswer}
use Rattle.fixed_bits.specs.Formats.{FormatParts, IsFormat}
use Rattle.fixed_respell.specs.AnswerLaws.{FormatNameIsTheOne, NamedAnswerIsTheAnswer, NamedAnswerIsTheOne}
use Rattle.fixed_respell.specs.FormatNames.{IsFormatName}
use Rattle.fixed_respell.specs.Language.{fault_answer}
use Rattle.fixed_respell.specs.Words.{format_text}
use Rattle.fixed_respell.proofs.FormatNameLemmas
use Rattle.fixed_respell.proofs.NamedLemmas

-- a message of at most 64 bytes, reported as the answer to a line
pub fault_appended : (A : List ℕ → AnswerText → Type 0) (line before after message : List ℕ) → length message ≤ 64 → A line (fault_answer message) → after ≡ before ++ (fault_answer message).text → AppendsAnswer A 192 line before after true
fault_appended A line before after message short answer appended = record {
  text = (fault_answer message).text;
  answer = answer;
  appended = appended;
  short = omega (arith, short, length-append (codes "error: ") message);
}

-- the word of a format is a name of it, and a name names one format
pub text_names : (f : FormatParts) → IsFormat f.width f.frac → IsFormatName (format_text f) f
text_names = FormatNameLemmas.text_names

pub name_one : FormatNameIsTheOne
name_one = FormatNameLemmas.name_one

-- a line has one answer by any of the formats' names; it is the answer by their own words, if the line uses them
pub named_answer_one : NamedAnswerIsTheOne
named_answer_one = NamedLemmas.named_answer_one

pub named_answer : NamedAnswerIsTheAnswer
named_answer = NamedLemmas.named_answer
