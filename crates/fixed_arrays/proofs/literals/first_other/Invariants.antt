use Rattle.std.proofs.Common.{◌+◌, ◌≤◌, length}
use Rattle.fixed_arrays.proofs.LiteralLemmas.{OtherIn}
use Rattle.fixed_arrays.proofs.literals.first_other.Given as goal

abbrev pub invariant-loop-rest : goal.invariant-loop-rest
invariant-loop-rest l = record {
  searched : OtherIn l.format l.text l.rest l.number;
  room : l.number + length l.rest ≤ length l.text;
}

abbrev pub decreases-loop-rest : goal.decreases-loop-rest
decreases-loop-rest l = length l.rest
