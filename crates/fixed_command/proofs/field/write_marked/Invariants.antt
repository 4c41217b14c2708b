use Rattle.std.proofs.Common.{◌≡◌, ◌≤◌, length, map, take}
use Rattle.fixed_command.specs.Fields.{marked}
use Rattle.fixed_command.proofs.field.write_marked.Given as goal

abbrev pub invariant-bytes : goal.invariant-bytes
invariant-bytes l = record {
  text_is : l.out ≡ map (marked l.mark) (take l.at l.scratch);
  kept : l.scratch ≡ l.fn.out;
  short : length l.out ≤ l.at;
}
