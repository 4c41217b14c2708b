use Rattle.std.proofs.Common.{◌≡◌, ℕ, List, ap, inr, true}
use Rattle.std.proofs.lemmas.Result.{IfOk-weaker}
use Rattle.std.specs.Prelude.{IfOk}
use Rattle.line_engine.specs.AnswerText.{AnswerText}
use Rattle.line_engine.specs.Refusals.{reply_of}
use Rattle.line_engine.specs.declared.whole_rule.WholeAnswer.{WholeAnswer}
use Rattle.fixed_constants.specs.Answer.{fault_line}
use Rattle.fixed_constants.specs.Forms.{IsFormFault, IsSourceAnswer}
use Rattle.fixed_constants.specs.declared.fault.ConstantFault.{ConstantFault}
use Rattle.fixed_constants.specs.declared.form.Form.{Form}
use Rattle.fixed_constants.proofs.form_rule.answer.Goals as goal

refused : (form : Form) (guard input : List ℕ) (line : ℕ) (why : ConstantFault) (answer : AnswerText) → IsFormFault form guard input line why → answer ≡ record { text = fault_line line why; fault = true } → IsSourceAnswer form guard input answer
refused form guard input line why answer fault is = inr (record {
  line = line;
  why = why;
  is = fault;
  text = ap (λ (t : AnswerText). t.text) is;
  fault = ap (λ (t : AnswerText). t.fault) is;
})

pub returns-in-Err-Refused : goal.returns-in-Err-Refused
returns-in-Err-Refused g c =
    let line = c.in-Err-Refused.line in
    let why = c.in-Err-Refused.fault in
    let fault : IsFormFault c.args.form c.args.guard.now c.args.input.now line why = rw c.in-Err-Refused.field-0-is at c.in-Err-Refused.ensures.refused in
    let told : IfOk c.refusal.result (λ (a : WholeAnswer). reply_of a ≡ record { text = fault_line line why; fault = true }) = rw c.in-Err-Refused.field-0-is at c.refusal.ensures in
    IfOk-weaker c.refusal.result
    (λ (a : WholeAnswer). reply_of a ≡ record { text = fault_line line why; fault = true })
    (λ (a : WholeAnswer). IsSourceAnswer c.args.form c.args.guard.now c.args.input.now (reply_of a))
    (λ a is. refused c.args.form c.args.guard.now c.args.input.now line why (reply_of a) fault is) told
