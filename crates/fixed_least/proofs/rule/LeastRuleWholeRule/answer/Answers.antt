use Rattle.std.proofs.Common.{ap, inr}
use Rattle.std.proofs.lemmas.Result.{IfOk-weaker}
use Rattle.line_engine.specs.AnswerText.{AnswerText}
use Rattle.fixed_least.proofs.rule.LeastRuleWholeRule.answer.Goals as goal

pub returns-in-Err : goal.returns-in-Err
returns-in-Err g c = IfOk-weaker c.refusal.result _ _ (λ answer is. inr (record {
  why = c.in-Err.fault;
  is_none = c.in-Err.ensures.refused;
  text = ap (λ (t : AnswerText). t.text) is;
  fault = ap (λ (t : AnswerText). t.fault) is;
})) c.refusal.ensures
