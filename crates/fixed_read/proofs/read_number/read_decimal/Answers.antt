use Rattle.fixed_read.proofs.ShortNumeralLemmas.{if_some}
use Rattle.fixed_read.proofs.read_number.read_decimal.Goals as goal

pub returns-in_ok-found-in-Dec-clause-numeral : goal.returns-in_ok-found-in-Dec-clause-numeral
returns-in_ok-found-in-Dec-clause-numeral g c = rw c.in-Dec.is (if_some _ _ c.number_of_short.result (λ n f. c.in_ok-found-in-Dec.ensures.numeral) c.number_of_short.ensures.format)

pub returns-in_ok-found-in-Dec-clause-reading : goal.returns-in_ok-found-in-Dec-clause-reading
returns-in_ok-found-in-Dec-clause-reading g c = rw c.in-Dec.is (if_some _ _ c.number_of_short.result (λ n f p h. f p (c.in_ok-found-in-Dec.ensures.parts p h)) c.number_of_short.ensures.reading)
