use Rattle.std.proofs.Common.{◌≡◌, ◌+◌, ◌++◌, drop, length, map}
use Rattle.fixed_fields.specs.Answer.{plain}
use Rattle.fixed_fields.proofs.answer.push_plain.Given as goal

abbrev pub invariant-loop-byte : goal.invariant-loop-byte
invariant-loop-byte g l = record {
  bytes : l.initial.out ++ map plain l.bytes ≡ l.out ++ map plain (drop l.byte-index l.bytes);
  length : length l.out ≡ length l.initial.out + l.byte-index;
}
