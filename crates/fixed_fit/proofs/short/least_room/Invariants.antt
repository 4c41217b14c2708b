use Rattle.std.proofs.Common.{take}
use Rattle.fixed_fit.specs.Inner.Serving.{HaveRoom}
use Rattle.fixed_fit.proofs.short.least_room.Given as goal

abbrev pub invariant-loop-left : goal.invariant-loop-left
invariant-loop-left l = HaveRoom l.least (take l.left-index l.lengths)
