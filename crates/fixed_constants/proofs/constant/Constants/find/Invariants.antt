use Rattle.std.proofs.Common.{drop}
use Rattle.fixed_constants.proofs.ListLemmas.{FindsSame}
use Rattle.fixed_constants.proofs.constant.Constants.find.Given as goal

abbrev pub invariant-loop-i : goal.invariant-loop-i
invariant-loop-i l = FindsSame l.name l.self (drop l.i l.self)
