use Rattle.std.proofs.Common.{◌≡◌, ◌++◌, drop, length, map}
use Rattle.std.specs.Char.{to_ascii_lowercase}
use Rattle.fixed_arrays.proofs.form.small.Given as goal

abbrev pub invariant-loop-byte : goal.invariant-loop-byte
invariant-loop-byte l = record {
  letters : map to_ascii_lowercase l.name ≡ l.letters ++ map to_ascii_lowercase (drop l.byte-index l.name);
  short : length l.letters ≡ l.byte-index;
}
