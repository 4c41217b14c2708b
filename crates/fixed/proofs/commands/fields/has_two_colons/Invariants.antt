use Rattle.std.proofs.Common.{◌≡◌, ◌==◌, ◌+◌, drop, length, nat_lt, if◌then◌else◌}
use Rattle.std.specs.Prelude.{filter}
use Rattle.fixed.specs.Questions.{has_two_colons}
use Rattle.fixed.proofs.commands.fields.has_two_colons.Given as goal

abbrev pub invariant-loop-byte : goal.invariant-loop-byte
invariant-loop-byte l = has_two_colons l.word ≡ nat_lt 1 ((if l.has_one then 1 else 0) + length (filter (λ byte. byte == 58) (drop l.byte-index l.word)))
