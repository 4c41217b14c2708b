use Rattle.std.proofs.Common.{arith}
use Rattle.fixed_command.specs.Limits.{longest_explanation}
use Rattle.fixed_command.proofs.ExplainFieldLemmas.{looked_more}
use Rattle.fixed_command.proofs.explain_field.numeral_of.Goals as goal

pub bytes-preserved : goal.bytes-preserved
bytes-preserved c =
    let form = c.args.form.now in
    looked_more longest_explanation form.thousands.now form.decimal c.bare-bytes.result.now c.bytes.at c.bytes.numeral c.push_looked_at.new.numeral
    (omega arith) c.bytes.invariant c.push_looked_at.ensures
