use Rattle.fixed_write.proofs.LeadingLemmas.{Decade}
use Rattle.fixed_write.proofs.exponent.decade_of.Given as goal

abbrev pub invariant-digits : goal.invariant-digits
invariant-digits l = Decade l.number l.first l.others

abbrev pub decreases-digits : goal.decreases-digits
decreases-digits l = l.first
