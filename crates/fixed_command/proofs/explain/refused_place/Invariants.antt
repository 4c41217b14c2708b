use Rattle.fixed_command.specs.Explained.{HasNoneUpTo}
use Rattle.fixed_command.proofs.explain.refused_place.Given as goal

abbrev pub invariant-loop-end : goal.invariant-loop-end
invariant-loop-end g l = HasNoneUpTo l.cause l.settings l.text l.end
