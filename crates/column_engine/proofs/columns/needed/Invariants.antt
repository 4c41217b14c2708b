use Rattle.std.proofs.Common.{◌≡◌, drop, max}
use Rattle.column_engine.specs.Answers.{needed}
use Rattle.column_engine.proofs.columns.needed.Given as goal

abbrev pub invariant-spans : goal.invariant-spans
invariant-spans l = needed l.asked ≡ max l.most (needed (drop l.at l.asked))
