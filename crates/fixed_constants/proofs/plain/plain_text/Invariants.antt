use Rattle.std.proofs.Common.{◌≡◌, ◌++◌, length}
use Rattle.line_engine.specs.Lines.{lines}
use Rattle.fixed_constants.specs.Plain.{plain_lines, plain_text}
use Rattle.fixed_constants.proofs.plain.plain_text.Given as goal

abbrev pub invariant-loop-rest : goal.invariant-loop-rest
invariant-loop-rest l = plain_text l.text ≡ l.plain.items ++ plain_lines (lines l.rest)

abbrev pub decreases-loop-rest : goal.decreases-loop-rest
decreases-loop-rest l = length l.rest
