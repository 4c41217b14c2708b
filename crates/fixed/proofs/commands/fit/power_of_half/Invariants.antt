use Rattle.std.proofs.Common.{◌^◌}
use Rattle.fixed.specs.Inner.Fractions.{IsFraction}
use Rattle.fixed.proofs.commands.fit.power_of_half.Given as goal

abbrev pub invariant-halves : goal.invariant-halves
invariant-halves l = IsFraction l.place (5 ^ l.place) l.digits.items
