use Rattle.std.proofs.Common.{arith}
use Rattle.fixed_error.proofs.ShortLemmas.{word_fits}
use Rattle.fixed_error.proofs.rest.word_of_decimal.Goals as goal

pub overflow_mul-result : goal.overflow_mul-result
overflow_mul-result c = rw c.power_of_ten.ensures (omega (arith, (word_fits c.args.found.fraction c.args.found.places c.requires.few c.requires.below).1))

pub returns-clause-parts : goal.returns-clause-parts
returns-clause-parts c = rw c.power_of_ten.ensures (word_fits c.args.found.fraction c.args.found.places c.requires.few c.requires.below).0

pub returns-clause-below : goal.returns-clause-below
returns-clause-below c = rw c.power_of_ten.ensures (word_fits c.args.found.fraction c.args.found.places c.requires.few c.requires.below).1
