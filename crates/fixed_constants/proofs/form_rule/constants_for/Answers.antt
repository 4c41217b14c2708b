use Rattle.fixed_constants.proofs.FormLemmas.{fault_first, name_alone, name_first}
use Rattle.fixed_constants.proofs.form_rule.constants_for.Goals as goal

pub returns-in-Some-clause-refused : goal.returns-in-Some-clause-refused
returns-in-Some-clause-refused c = name_alone c.args.form c.args.guard.now c.args.text.now _ c.in-Some.line c.in-Ok.ensures.constants c.in-Some.ensures

pub returns-then-first-line-clause-refused : goal.returns-then-first-line-clause-refused
returns-then-first-line-clause-refused c =
    let fault = rw c.in-Err-Refused.field-0-is at c.in-Err-Refused.ensures.refused in
    name_first c.args.form c.args.guard.now c.args.text.now c.in-Some-reserved.first c.in-Err-Refused.line c.in-Err-Refused.fault fault c.in-Some-reserved.ensures c.if-first-line.true

pub returns-else-first-line-clause-refused : goal.returns-else-first-line-clause-refused
returns-else-first-line-clause-refused c =
    let fault = rw c.in-Err-Refused.field-0-is at c.in-Err-Refused.ensures.refused in
    fault_first c.args.form c.args.guard.now c.args.text.now c.in-Some-reserved.first c.in-Err-Refused.line c.in-Err-Refused.fault fault c.in-Some-reserved.ensures c.if-first-line.false
