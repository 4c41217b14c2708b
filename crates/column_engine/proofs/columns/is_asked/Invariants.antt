use Rattle.std.proofs.Common.{◌≡◌, drop}
use Rattle.column_engine.specs.Answers.{is_asked}
use Rattle.column_engine.proofs.columns.is_asked.Given as goal

abbrev pub invariant-spans : goal.invariant-spans
invariant-spans l = is_asked l.asked l.column ≡ is_asked (drop l.at l.asked) l.column
