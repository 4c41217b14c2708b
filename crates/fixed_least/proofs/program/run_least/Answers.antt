use Rattle.std.proofs.Common.{◌≡◌}
use Rattle.fixed_least.proofs.ProgramLemmas.{radix_named}
use Rattle.fixed_least.proofs.program.run_least.Goals as goal

pub returns-in-Some-clause-output : goal.returns-in-Some-clause-output
returns-in-Some-clause-output g c r names =
    let same : c.in-Some.radix ≡ r = radix_named c.args.words.now c.in-Some.radix r c.in-Some.ensures names in
    rw same at c.run_whole.ensures.output

pub returns-in-Some-clause-run : goal.returns-in-Some-clause-run
returns-in-Some-clause-run g c r names =
    let same : c.in-Some.radix ≡ r = radix_named c.args.words.now c.in-Some.radix r c.in-Some.ensures names in
    rw same at c.run_whole.ensures.run

pub returns-in-Some-clause-prefix_on_write_fault : goal.returns-in-Some-clause-prefix_on_write_fault
returns-in-Some-clause-prefix_on_write_fault g c r names =
    let same : c.in-Some.radix ≡ r = radix_named c.args.words.now c.in-Some.radix r c.in-Some.ensures names in
    rw same at c.run_whole.ensures.prefix_on_write_fault
