use Rattle.std.proofs.Common.{◌≡◌, take}
use Rattle.std.specs.List.{flat_map}
use Rattle.fixed_command.specs.Fields.{read_for}
use Rattle.fixed_command.specs.Limits.{longest_explanation}
use Rattle.fixed_command.proofs.explain_field.numeral_of.Given as goal

abbrev pub invariant-bytes : goal.invariant-bytes
invariant-bytes l = l.numeral ≡ take longest_explanation (flat_map (read_for l.form.thousands.now l.form.decimal) (take l.at l.bytes))
