use Rattle.std.proofs.Common.{◌+◌, ◌≤◌, length}
use Rattle.fixed_constants.proofs.FormLemmas.{SearchedTo}
use Rattle.fixed_constants.proofs.form.first_reserved.Given as goal

abbrev pub invariant-loop-rest : goal.invariant-loop-rest
invariant-loop-rest l = record {
  searched : SearchedTo l.form l.guard l.text l.rest l.number;
  room : l.number + length l.rest ≤ length l.text;
}

abbrev pub decreases-loop-rest : goal.decreases-loop-rest
decreases-loop-rest l = length l.rest
