use Rattle.std.proofs.Common.{◌≡◌, ◌++◌, ◌+◌, ◌*◌, ◌≤◌, length, vec_len, vec_capacity}
use Rattle.std.specs.List.{repeat}
use Rattle.fixed_write.proofs.text.append_times.Given as goal

abbrev pub invariant-copies : goal.invariant-copies
invariant-copies l = (l.bytes.items ≡ l.fn.bytes.items ++ repeat l.done l.part) × (vec_len l.bytes ≡ vec_len l.fn.bytes + l.done * length l.part) × (vec_capacity l.fn.bytes ≤ vec_capacity l.bytes)
