use Rattle.std.proofs.Common.{◌-◌, ◌<◌, drop, length}
use Rattle.fixed_decimal.proofs.WholeLemmas.{trailing_none, trailing_more, trailing_all}
use Rattle.fixed_numeral.proofs.Public.{below_split}
use Rattle.fixed_decimal.proofs.whole.low_word.Goals as goal

pub loop-rest-init : goal.loop-rest-init
loop-rest-init g c =
    rw c.last_n-rest.ensures (trailing_none (drop (length c.args.view.now - 64) c.args.view.now) (64 < length c.args.view.now) c.is_long-over.result c.args.steps.now (below_split 10 c.args.view.now (length c.args.view.now - 64) c.requires.digits).1 c.is_long-over.ensures)

pub loop-rest-preserved : goal.loop-rest-preserved
loop-rest-preserved g c = trailing_more (drop (length c.args.view.now - 64) c.args.view.now) c.loop-rest.rest c.take_number-number.result.1 c.loop-rest.low c.next_count-count.result c.take_number-number.result.0 c.raised.result c.split_word-less.result.0 (64 < length c.args.view.now) c.loop-rest.over c.split_word-less.result.1 c.either-over.result c.args.steps.now c.loop-rest.steps c.take_number-number.new.steps c.loop-rest.invariant c.next_count-count.ensures.within c.take_number-number.ensures.number c.take_number-number.ensures.rest c.raised.ensures.sum c.split_word-less.ensures.low c.split_word-less.ensures.over c.either-over.ensures c.take_number-number.ensures.cost

pub returns-clause-low : goal.returns-clause-low
returns-clause-low g c = (trailing_all c.args.view.now c.loop-rest.rest c.loop-rest.low c.loop-rest.over c.args.steps.now c.loop-rest.steps c.requires.leading (c.is_empty.ensures.0 c.loop-rest-test.false) c.loop-rest.invariant).low

pub returns-clause-over : goal.returns-clause-over
returns-clause-over g c = (trailing_all c.args.view.now c.loop-rest.rest c.loop-rest.low c.loop-rest.over c.args.steps.now c.loop-rest.steps c.requires.leading (c.is_empty.ensures.0 c.loop-rest-test.false) c.loop-rest.invariant).full
