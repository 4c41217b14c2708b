use Rattle.fixed_constants.proofs.ProgramLemmas.{form_named, guard_named}
use Rattle.fixed_constants.proofs.program.run_constants.Goals as goal

pub returns-in-Some-clause-output : goal.returns-in-Some-clause-output
returns-in-Some-clause-output g c f guard names =
    let form = form_named c.args.words.now c.in-Some.rule.form f c.in-Some.rule.guard.now guard c.in-Some.ensures names in
    let name = guard_named c.args.words.now c.in-Some.rule.form f c.in-Some.rule.guard.now guard c.in-Some.ensures names in
    rw (form, name) at c.run_whole.ensures.output

pub returns-in-Some-clause-run : goal.returns-in-Some-clause-run
returns-in-Some-clause-run g c f guard names =
    let form = form_named c.args.words.now c.in-Some.rule.form f c.in-Some.rule.guard.now guard c.in-Some.ensures names in
    let name = guard_named c.args.words.now c.in-Some.rule.form f c.in-Some.rule.guard.now guard c.in-Some.ensures names in
    rw (form, name) at c.run_whole.ensures.run

pub returns-in-Some-clause-prefix_on_write_fault : goal.returns-in-Some-clause-prefix_on_write_fault
returns-in-Some-clause-prefix_on_write_fault g c f guard names =
    let form = form_named c.args.words.now c.in-Some.rule.form f c.in-Some.rule.guard.now guard c.in-Some.ensures names in
    let name = guard_named c.args.words.now c.in-Some.rule.form f c.in-Some.rule.guard.now guard c.in-Some.ensures names in
    rw (form, name) at c.run_whole.ensures.prefix_on_write_fault
