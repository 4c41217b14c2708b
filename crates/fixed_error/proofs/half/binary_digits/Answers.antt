use Rattle.std.proofs.Common.{arith}
use Rattle.fixed_error.proofs.HalfLemmas.{digits_fit, digits_least, digits_most}
use Rattle.fixed_error.proofs.half.binary_digits.Goals as goal

pub overflow_cast-result : goal.overflow_cast-result
overflow_cast-result c = rw (c.from.ensures, c.from-2.ensures) (omega (arith, digits_fit c.args.word c.requires))

pub returns-clause-least : goal.returns-clause-least
returns-clause-least c = rw (c.from.ensures, c.from-2.ensures) (digits_least c.args.word)

pub returns-clause-most : goal.returns-clause-most
returns-clause-most c = rw (c.from.ensures, c.from-2.ensures) (digits_most c.args.word c.requires)
