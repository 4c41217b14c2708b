use Rattle.fixed_write.proofs.BaseLemmas.{IsFirst}
use Rattle.fixed_write.proofs.base.push_each_digit.Given as goal

abbrev pub invariant-digits : goal.invariant-digits
invariant-digits g l = IsFirst g.row.BASE l.number l.first l.others

abbrev pub decreases-digits : goal.decreases-digits
decreases-digits g l = l.first
