use Rattle.fixed.proofs.FractionLemmas.{IsHalving}
use Rattle.fixed.proofs.commands.fit.halved.Given as goal

abbrev pub invariant-digits : goal.invariant-digits
invariant-digits l = IsHalving l.digits l.half.items l.at l.rest
