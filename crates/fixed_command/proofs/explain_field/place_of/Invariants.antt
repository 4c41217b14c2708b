use Rattle.std.proofs.Common.{◌≡◌, ◌+◌, drop}
use Rattle.fixed_command.specs.Explained.{place_of}
use Rattle.fixed_command.proofs.explain_field.place_of.Given as goal

abbrev pub invariant-bytes : goal.invariant-bytes
invariant-bytes l = place_of l.form.thousands.now l.bytes l.number ≡ l.at + place_of l.form.thousands.now (drop l.at l.bytes) l.left
