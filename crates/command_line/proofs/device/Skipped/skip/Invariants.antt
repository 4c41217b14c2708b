use Rattle.std.specs.Io.KnownBytes.{Keeps}
use Rattle.command_line.specs.Device.{left_after_skip}
use Rattle.command_line.proofs.device.Skipped.skip.Given as goal

abbrev pub invariant-parts : goal.invariant-parts
invariant-parts g l = Keeps (left_after_skip g.R.Read.remaining l.initial.self) (left_after_skip g.R.Read.remaining l.self)

abbrev pub decreases-parts : goal.decreases-parts
decreases-parts g l = l.self.left
