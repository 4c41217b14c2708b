use Rattle.std.proofs.Common.{length}
use Rattle.fixed_arrays.proofs.LiteralLemmas.{FirstIn}
use Rattle.fixed_arrays.proofs.literals.first_format.Given as goal

abbrev pub invariant-loop-rest : goal.invariant-loop-rest
invariant-loop-rest l = FirstIn l.text l.rest

abbrev pub decreases-loop-rest : goal.decreases-loop-rest
decreases-loop-rest l = length l.rest
