use Rattle.std.proofs.Common.{◌≡◌, [], get_or, length}
use Rattle.line_engine.specs.Lines.{lines}
use Rattle.line_engine.proofs.refusal.line_after.Given as goal

abbrev pub invariant-loop-rest : goal.invariant-loop-rest
invariant-loop-rest l = get_or (lines l.rest) l.left [] ≡ get_or (lines l.fn.input) l.fn.before []

abbrev pub decreases-loop-rest : goal.decreases-loop-rest
decreases-loop-rest l = length l.rest
