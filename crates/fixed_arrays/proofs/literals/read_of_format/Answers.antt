use Rattle.fixed_arrays.proofs.LiteralLemmas.{fault_earlier, fault_only, literals_are, other_alone, other_earlier}
use Rattle.fixed_arrays.proofs.literals.read_of_format.Goals as goal
use Rattle.std.proofs.Common.{arith}

pub returns-in-None-clause-ok : goal.returns-in-None-clause-ok
returns-in-None-clause-ok c = literals_are c.args.text.now c.in-Ok.constants c.args.first c.in-Ok.ensures.constants c.requires c.in-None.ensures

pub returns-in-Some-clause-err : goal.returns-in-Some-clause-err
returns-in-Some-clause-err c = other_alone c.args.text.now c.in-Ok.constants c.args.first c.in-Some.line c.in-Ok.ensures.constants c.requires c.in-Some.ensures

pub returns-in-None-other-clause-err : goal.returns-in-None-other-clause-err
returns-in-None-other-clause-err c =
    let fault = rw c.in-Err-Refused.field-0-is at c.in-Err-Refused.ensures.refused in
    fault_only c.args.text.now c.args.first c.in-Err-Refused.line c.in-Err-Refused.fault fault c.requires c.in-None-other.ensures

pub returns-then-place-line-clause-err : goal.returns-then-place-line-clause-err
returns-then-place-line-clause-err c =
    let fault = rw c.in-Err-Refused.field-0-is at c.in-Err-Refused.ensures.refused in
    other_earlier c.args.text.now c.args.first c.in-Some-other.place c.in-Err-Refused.line c.in-Err-Refused.fault fault c.requires c.in-Some-other.ensures (omega (arith, c.if-place-line.true))

pub returns-else-place-line-clause-err : goal.returns-else-place-line-clause-err
returns-else-place-line-clause-err c =
    let fault = rw c.in-Err-Refused.field-0-is at c.in-Err-Refused.ensures.refused in
    fault_earlier c.args.text.now c.args.first c.in-Some-other.place c.in-Err-Refused.line c.in-Err-Refused.fault fault c.requires c.in-Some-other.ensures (omega (arith, c.if-place-line.false))
