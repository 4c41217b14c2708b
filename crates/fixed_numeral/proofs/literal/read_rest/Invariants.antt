use Rattle.std.proofs.Common.{take, ◌≡◌, ◌+◌}
use Rattle.fixed_numeral.specs.Inner.LiteralScan.{IsLiteralAfter}
use Rattle.fixed_numeral.proofs.literal.read_rest.Given as goal

abbrev pub invariant-loop-b : goal.invariant-loop-b
invariant-loop-b g l = record { after : IsLiteralAfter l.radix (take l.b-index l.bytes) l.state; cost : l.steps ≡ l.fn.steps + l.b-index }
