use Rattle.fixed_command.proofs.ExplainFieldLemmas.{place_here}
use Rattle.fixed_command.proofs.explain_field.place_of.Goals as goal

pub returns-then-left-eq0-clause-place : goal.returns-then-left-eq0-clause-place
returns-then-left-eq0-clause-place c =
    place_here c.args.form.now.thousands.now c.args.bytes.now c.bytes.at c.bytes.left c.args.number c.if-left-eq0.true c.bytes.invariant
