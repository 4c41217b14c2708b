use Rattle.fixed_write.proofs.RestLemmas.{Digits}
use Rattle.fixed_write.proofs.places.push_rest_digits.Given as goal

abbrev pub invariant-digits : goal.invariant-digits
invariant-digits g l = Digits g.row.BASE l.upper l.fn.rest l.count l.fn.out l.out l.left
