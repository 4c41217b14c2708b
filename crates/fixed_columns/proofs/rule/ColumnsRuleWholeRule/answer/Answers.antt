use Rattle.std.proofs.Common.{◌∙◌, List, ℕ, ap, inr}
use Rattle.std.proofs.lemmas.Result.{IfOk-weaker}
use Rattle.line_engine.specs.AnswerText.{AnswerText}
use Rattle.line_engine.specs.Refusals.{refusal_text}
use Rattle.fixed_columns.proofs.rule.ColumnsRuleWholeRule.answer.Goals as goal

pub returns-in-Err-Refused : goal.returns-in-Err-Refused
returns-in-Err-Refused g c = IfOk-weaker c.refused.result _ _ (λ answer is. inr (record {
  line = c.in-Err-Refused.line;
  why = c.in-Err-Refused.fault;
  is = rw c.in-Err-Refused.field-0-is at c.in-Err-Refused.ensures.refused;
  text = ap (λ (t : AnswerText). t.text) is ∙ ap (λ (m : List ℕ). refusal_text c.in-Err-Refused.line m) c.message.ensures;
  fault = ap (λ (t : AnswerText). t.fault) is;
})) c.refused.ensures
