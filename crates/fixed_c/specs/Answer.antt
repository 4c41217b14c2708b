-- The result of a call that answers a line.
use Rattle.std.specs.Prelude.{◌≡◌, ℕ, List}
use Rattle.line_engine.specs.AnswerText.{AnswerText}
use Rattle.fixed_respell.specs.Answer.{IsAnswer}
use Rattle.fixed_c.specs.Numbers.{flag_of}
use Rattle.fixed_c.specs.Texts.{PutsText}

-- the text of the answer to the line was put into a buffer, and the flag says whether it reports a fault
pub record IsAnswered (line old new : List ℕ) (len fault code : ℕ) : Type 0 where
  pub answer : AnswerText
  pub answer_is : IsAnswer line answer
  pub puts : PutsText answer.text old new len code
  pub fault_is : fault ≡ flag_of answer.fault
