-- What holds of a refusal, and of that of an answer that is too long, holds after the answer is fitted.
use Rattle.std.proofs.Common.{Bool, false, if◌then◌else◌, length, nat_le, true}
use Rattle.line_engine.specs.AnswerText.{AnswerText}
use Rattle.json_lines.specs.Answers.{longest}
use Rattle.json_lines.specs.Told.{fitted_refusal}
use Rattle.json_lines.specs.declared.answer.Refused.{Refused}
use Rattle.json_lines.specs.declared.answer.Refused.TheVariants.{Line}
use Rattle.json_lines.specs.declared.fault.JsonFault.TheVariants.{AnswerTooLong}

fit_one : (P : Refused → Type 0) (fits : Bool) (refused : Refused) → P (Line AnswerTooLong) → P refused → P (if fits then refused else Line AnswerTooLong)
fit_one P true refused long is = is
fit_one P false refused long is = long

pub fit_keeps : (P : Refused → Type 0) (whole : AnswerText) (refused : Refused) → P (Line AnswerTooLong) → P refused → P (fitted_refusal whole refused)
fit_keeps P whole refused long is = fit_one P (nat_le (length whole.text) longest) refused long is
