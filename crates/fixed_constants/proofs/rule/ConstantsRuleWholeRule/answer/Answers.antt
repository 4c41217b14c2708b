use Rattle.std.proofs.Common.{ap, inr}
use Rattle.std.proofs.lemmas.Result.{IfOk-weaker}
use Rattle.line_engine.specs.AnswerText.{AnswerText}
use Rattle.fixed_constants.proofs.rule.ConstantsRuleWholeRule.answer.Goals as goal

pub returns-in-Err-Refused : goal.returns-in-Err-Refused
returns-in-Err-Refused g c = IfOk-weaker c.refusal.result _ _ (λ answer is. inr (record {
  line = c.in-Err-Refused.line;
  why = c.in-Err-Refused.fault;
  is = rw c.in-Err-Refused.field-0-is at c.in-Err-Refused.ensures.refused;
  text = ap (λ (t : AnswerText). t.text) is;
  fault = ap (λ (t : AnswerText). t.fault) is;
})) c.refusal.ensures
