use Rattle.std.proofs.Common.{◌≡◌, ◌≤◌, length, take}
use Rattle.fixed_numeral.specs.Literal.{without_underscores}
use Rattle.fixed_show.proofs.parts.digit_count.Given as goal

abbrev pub invariant-loop-byte : goal.invariant-loop-byte
invariant-loop-byte l = (l.count ≡ length (without_underscores (take l.byte-index l.bytes))) × (l.count ≤ l.byte-index)
