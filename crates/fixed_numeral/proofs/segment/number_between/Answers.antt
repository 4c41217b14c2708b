use Rattle.std.proofs.Common.{◌-◌, arith}
use Rattle.fixed_numeral.proofs.SegmentLemmas.{run_at_end, number_in_two, two_fit}
use Rattle.fixed_numeral.proofs.segment.number_between.Goals as goal

pub returns-then-count-le8 : goal.returns-then-count-le8
returns-then-count-le8 c = run_at_end c.args.base c.args.bytes.now c.args.from (c.args.to - c.args.from) c.args.to c.last_number.result c.word_at-last.result (omega (arith, c.requires.long)) c.requires.within (λ k. omega (arith, c.type_inv.bytes k)) c.if-count-le8.true (omega (arith, c.requires.place)) c.word_at-last.ensures c.last_number.ensures.number c.requires.digits

pub overflow_mul-result-2 : goal.overflow_mul-result-2
overflow_mul-result-2 c = omega (arith, two_fit c.args.base c.last_number-high.result c.last_number-low.result c.requires.most c.last_number-high.ensures.small c.last_number-low.ensures.small)

pub overflow_add-result : goal.overflow_add-result
overflow_add-result c = omega (arith, two_fit c.args.base c.last_number-high.result c.last_number-low.result c.requires.most c.last_number-high.ensures.small c.last_number-low.ensures.small)

pub returns : goal.returns
returns c = number_in_two c.args.base c.args.bytes.now c.args.from c.args.to c.last_number-high.result c.last_number-low.result c.word_at.result c.word_at-last.result c.requires.long c.requires.within (λ k. omega (arith, c.type_inv.bytes k)) (omega (arith, c.if-count-le8.false)) c.requires.few c.word_at.ensures c.word_at-last.ensures c.last_number-high.ensures.number c.last_number-low.ensures.number c.requires.digits
