use Rattle.std.proofs.Common.{arith}
use Rattle.fixed_error.proofs.HalfLemmas.{word_moved}
use Rattle.fixed_error.proofs.half.word_at.Goals as goal

pub overflow_sub-rest : goal.overflow_sub-rest
overflow_sub-rest c = omega (arith, word_moved c.args.word c.binary_digits.result c.args.frac c.from-2.result c.from.result c.from-3.result c.requires.word c.requires.frac c.binary_digits.ensures.least c.binary_digits.ensures.most c.from-2.ensures c.from.ensures c.from-3.ensures)

pub overflow_cast-rest : goal.overflow_cast-rest
overflow_cast-rest c = omega (arith, word_moved c.args.word c.binary_digits.result c.args.frac c.from-2.result c.from.result c.from-3.result c.requires.word c.requires.frac c.binary_digits.ensures.least c.binary_digits.ensures.most c.from-2.ensures c.from.ensures c.from-3.ensures)

pub returns-then-rest-lt-WORD_PARTS : goal.returns-then-rest-lt-WORD_PARTS
returns-then-rest-lt-WORD_PARTS c = omega (arith, word_moved c.args.word c.binary_digits.result c.args.frac c.from-2.result c.from.result c.from-3.result c.requires.word c.requires.frac c.binary_digits.ensures.least c.binary_digits.ensures.most c.from-2.ensures c.from.ensures c.from-3.ensures, c.if-rest-lt-WORD_PARTS.true)

pub returns-else-rest-lt-WORD_PARTS : goal.returns-else-rest-lt-WORD_PARTS
returns-else-rest-lt-WORD_PARTS c = omega (arith, word_moved c.args.word c.binary_digits.result c.args.frac c.from-2.result c.from.result c.from-3.result c.requires.word c.requires.frac c.binary_digits.ensures.least c.binary_digits.ensures.most c.from-2.ensures c.from.ensures c.from-3.ensures, c.if-rest-lt-WORD_PARTS.false)
