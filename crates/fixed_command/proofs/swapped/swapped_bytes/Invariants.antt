use Rattle.std.proofs.Common.{◌≡◌, ◌++◌, drop, length, map}
use Rattle.fixed_command.specs.Fields.{swapped}
use Rattle.fixed_command.proofs.swapped.swapped_bytes.Given as goal

abbrev pub invariant-loop-byte : goal.invariant-loop-byte
invariant-loop-byte l = record {
  bytes : map (swapped l.decimal) l.bytes ≡ l.read.items ++ map (swapped l.decimal) (drop l.byte-index l.bytes);
  length : length l.read.items ≡ l.byte-index;
}
