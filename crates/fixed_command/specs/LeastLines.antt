-- The output of `fixed least`.
use Rattle.std.specs.Prelude.{◌≡◌, ◌==◌, ℕ, Bool, List, codes, if◌then◌else◌}
use Rattle.std.specs.List.{starts_with}
use Rattle.fixed_least.specs.Least.{IsWholeAnswer}
use Rattle.line_engine.specs.AnswerText.{AnswerText}
use Rattle.fixed_command.specs.declared.least_lines.LeastLines.{LeastLines}

-- the line that says that no format is left
abbrev pub none_line : List ℕ
none_line = codes "none\n"

abbrev pub says_none : List ℕ → Bool
says_none text = starts_with (λ a b. a == b) text none_line

-- the answer without the lines that rule the formats out, if none is left
abbrev pub without_reasons : List ℕ → List ℕ
without_reasons text = if says_none text then none_line else text

-- the answer to a list: that of `least_tool`, without the reasons for which no format is left unless they are requested
pub record IsLeastWritten (rule : LeastLines) (input : List ℕ) (answer : AnswerText) : Type 0 where
  pub full : AnswerText
  pub is_full : IsWholeAnswer rule.radix input full
  pub text_is : answer.text ≡ (if rule.is_reason_asked then full.text else without_reasons full.text)
  pub fault_is : answer.fault ≡ full.fault
