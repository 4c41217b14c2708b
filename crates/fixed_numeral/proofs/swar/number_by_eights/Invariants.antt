use Rattle.std.proofs.Common.{◌-◌, length}
use Rattle.fixed_numeral.proofs.StripLemmas.{IsAligned}
use Rattle.fixed_numeral.proofs.swar.number_by_eights.Given as goal

abbrev pub invariant-loop-at : goal.invariant-loop-at
invariant-loop-at l = IsAligned l.base l.bytes l.at l.number

abbrev pub decreases-loop-at : goal.decreases-loop-at
decreases-loop-at l = length l.bytes - l.at
