use Rattle.std.proofs.Common.{◌≡◌, ◌+◌, length, map}
use Rattle.fixed_command.proofs.RefusedLemmas.{HasPassed}
use Rattle.fixed_command.proofs.refused.first_refused.Given as goal

abbrev pub invariant-loop-rest : goal.invariant-loop-rest
invariant-loop-rest g l = record {
  passed : HasPassed l.question (map (λ w. w.now) l.words) (map (λ w. w.now) l.rest) l.place;
  counted : l.place + length l.rest ≡ length l.words;
}

abbrev pub decreases-loop-rest : goal.decreases-loop-rest
decreases-loop-rest g l = length l.rest
