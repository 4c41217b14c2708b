use Rattle.std.proofs.Common.{refl}
use Rattle.number_tests.proofs.numerals.support.first_over.Goals as goal

pub first_number-alone-requires-clause-digits : goal.first_number-alone-requires-clause-digits
first_number-alone-requires-clause-digits g c = let (p, h) = c.in-Ok.ensures.reading.numeral.0 refl in rw c.whole_view-whole.ensures (c.in-Ok.ensures.reading.read p h).whole_digits

pub take_number-number-requires-clause-digits : goal.take_number-number-requires-clause-digits
take_number-number-requires-clause-digits g c = let (p, h) = c.in-Ok.ensures.reading.numeral.0 refl in rw c.whole_view-whole.ensures (c.in-Ok.ensures.reading.read p h).whole_digits
