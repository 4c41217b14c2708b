use Rattle.std.proofs.Common.{◌≡◌, ◌++◌, drop}
use Rattle.fixed_constants.specs.Plain.{plain_from, plain_line}
use Rattle.fixed_constants.proofs.plain.push_plain_line.Given as goal

abbrev pub invariant-loop-byte : goal.invariant-loop-byte
invariant-loop-byte l = l.initial.text.items ++ plain_line l.line ≡ l.text.items ++ plain_from l.place (drop l.byte-index l.line)
