use Rattle.std.proofs.Common.{◌≡◌, ◌+◌, length}
use Rattle.fixed_io.specs.Report.{newlines_of}
use Rattle.fixed_io.proofs.newlines.newlines_in.Given as goal

abbrev pub invariant-loop-rest : goal.invariant-loop-rest
invariant-loop-rest l = l.total + newlines_of l.rest ≡ newlines_of l.bytes

abbrev pub decreases-loop-rest : goal.decreases-loop-rest
decreases-loop-rest l = length l.rest
