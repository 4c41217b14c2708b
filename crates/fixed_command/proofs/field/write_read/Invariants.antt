use Rattle.std.proofs.Common.{◌≡◌, ◌≤◌, length, take}
use Rattle.std.specs.List.{flat_map}
use Rattle.fixed_command.specs.Fields.{read_for}
use Rattle.fixed_command.proofs.field.write_read.Given as goal

abbrev pub invariant-bytes : goal.invariant-bytes
invariant-bytes l = record {
  text_is : l.numeral ≡ flat_map (read_for l.form.thousands.now l.form.decimal) (take l.at l.bytes);
  short : length l.numeral ≤ l.at;
}
