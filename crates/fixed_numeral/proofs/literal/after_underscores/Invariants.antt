use Rattle.std.proofs.Common.{drop, ◌≡◌}
use Rattle.fixed_numeral.specs.Literal.{after_underscores}
use Rattle.fixed_numeral.proofs.literal.after_underscores.Given as goal

abbrev pub invariant-loop-k : goal.invariant-loop-k
invariant-loop-k l = after_underscores (drop l.k l.bytes) ≡ after_underscores l.bytes
