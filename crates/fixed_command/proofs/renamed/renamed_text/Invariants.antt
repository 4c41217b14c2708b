use Rattle.std.proofs.Common.{◌++◌, ℕ, List, length}
use Rattle.line_engine.specs.Lines.{lines}
use Rattle.fixed_command.specs.Renamed.{AreRenamed}
use Rattle.fixed_command.proofs.renamed.renamed_text.Given as goal

abbrev pub invariant-loop-rest : goal.invariant-loop-rest
invariant-loop-rest l = (more : List ℕ) → AreRenamed (lines l.rest) more → AreRenamed (lines l.text) (l.renamed.items ++ more)

abbrev pub decreases-loop-rest : goal.decreases-loop-rest
decreases-loop-rest l = length l.rest
