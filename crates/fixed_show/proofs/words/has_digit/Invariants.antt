use Rattle.std.proofs.Common.{◌≡◌, [], take}
use Rattle.fixed_numeral.specs.Literal.{without_underscores}
use Rattle.fixed_show.proofs.words.has_digit.Given as goal

abbrev pub invariant-loop-byte : goal.invariant-loop-byte
invariant-loop-byte l = without_underscores (take l.byte-index l.bytes) ≡ []
