use Rattle.std.proofs.Common.{◌≡◌, arith}
use Rattle.fixed_respell.proofs.CommandLemmas.{limit_one, count_is_one}
use Rattle.fixed_respell.proofs.program.run.Goals as goal

pub returns-in-Some-Read-clause-output : goal.returns-in-Some-Read-clause-output
returns-in-Some-Read-clause-output g c limit is input whole short =
    let same : c.in-Some-Read.limit ≡ limit = limit_one c.args.args.now c.in-Some-Read.limit limit (rw c.in-Some-Read.field-0-is at c.in-Some-Read.ensures) is in
    c.run_lines.ensures.output input whole (omega (arith, short, same))

pub returns-in-Some-Read-clause-too_long : goal.returns-in-Some-Read-clause-too_long
returns-in-Some-Read-clause-too_long g c limit is input whole long =
    let same : c.in-Some-Read.limit ≡ limit = limit_one c.args.args.now c.in-Some-Read.limit limit (rw c.in-Some-Read.field-0-is at c.in-Some-Read.ensures) is in
    c.run_lines.ensures.too_long input whole (omega (arith, long, same))

pub returns-in-Some-Read-clause-run : goal.returns-in-Some-Read-clause-run
returns-in-Some-Read-clause-run g c limit is =
    let same : c.in-Some-Read.limit ≡ limit = limit_one c.args.args.now c.in-Some-Read.limit limit (rw c.in-Some-Read.field-0-is at c.in-Some-Read.ensures) is in
    rw same at c.run_lines.ensures.run

pub returns-in-Some-Read-clause-cost : goal.returns-in-Some-Read-clause-cost
returns-in-Some-Read-clause-cost g c limit is =
    let same : c.in-Some-Read.limit ≡ limit = limit_one c.args.args.now c.in-Some-Read.limit limit (rw c.in-Some-Read.field-0-is at c.in-Some-Read.ensures) is in
    rw same at c.run_lines.ensures.cost

pub returns-in-Some-Read-clause-asked : goal.returns-in-Some-Read-clause-asked
returns-in-Some-Read-clause-asked g c limit is =
    let same : c.in-Some-Read.limit ≡ limit = limit_one c.args.args.now c.in-Some-Read.limit limit (rw c.in-Some-Read.field-0-is at c.in-Some-Read.ensures) is in
    rw same at c.run_lines.ensures.asked

pub returns-in-Some-SelfTest-clause-self_test : goal.returns-in-Some-SelfTest-clause-self_test
returns-in-Some-SelfTest-clause-self_test g c count is =
    let same : c.in-Some-SelfTest.count ≡ count = count_is_one c.args.args.now c.in-Some-SelfTest.count count (rw c.in-Some-SelfTest.field-0-is at c.in-Some-SelfTest.ensures) is in
    rw same at c.run_self.ensures.run
