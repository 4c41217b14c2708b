use Rattle.std.proofs.Common.{◌≡◌, ◌-◌, ◌^◌, ◌<◌, drop, length, arith, refl, pow_pos}
use Rattle.fixed_read.proofs.NumberLemmas.{chunk_room, trailing_none, trailing_more, trailing_all}
use Rattle.fixed_numeral.proofs.Public.{below_split}
use Rattle.fixed_read.proofs.digits.number_mod_power_long.Goals as goal

pub take_number-number-requires-clause-digits : goal.take_number-number-requires-clause-digits
take_number-number-requires-clause-digits g c = c.loop-rest.invariant.digits

pub take_number-number-requires-clause-room : goal.take_number-number-requires-clause-room
take_number-number-requires-clause-room g c = omega (arith, chunk_room c.args.base c.next_count-count.result c.requires.most c.next_count-count.ensures.most)

pub loop-rest-init : goal.loop-rest-init
loop-rest-init g c =
    let width : c.from.result ≡ c.args.width = c.from.ensures in
    let last : c.last_n-rest.result ≡ drop (length c.args.view.now - c.args.width) c.args.view.now = rw width at c.last_n-rest.ensures in
    rw last (trailing_none c.args.base (2 ^ c.args.width) (drop (length c.args.view.now - c.args.width) c.args.view.now) (c.args.width < length c.args.view.now) c.is_longer-over.result c.args.steps.now (pow_pos c.args.width) (below_split c.args.base c.args.view.now (length c.args.view.now - c.args.width) c.requires.digits).1 c.is_longer-over.ensures)

pub loop-rest-preserved : goal.loop-rest-preserved
loop-rest-preserved g c = trailing_more c.args.base (2 ^ c.args.width) (drop (length c.args.view.now - c.args.width) c.args.view.now) c.loop-rest.rest c.take_number-number.result.1 c.loop-rest.low c.next_count-count.result c.take_number-number.result.0 c.with_digits.result c.split_bits-high.result.0 c.split_bits-high.result.1 (c.args.width < length c.args.view.now) c.loop-rest.over c.is_over-over.result c.args.steps.now c.loop-rest.steps c.take_number-number.new.steps (omega (arith, c.requires.least)) (pow_pos c.args.width) c.loop-rest.invariant c.next_count-count.ensures.within c.take_number-number.ensures.number c.take_number-number.ensures.rest c.with_digits.ensures c.split_bits-high.ensures.high c.split_bits-high.ensures.low c.is_over-over.ensures c.take_number-number.ensures.cost

pub returns-clause-number : goal.returns-clause-number
returns-clause-number g c = (trailing_all c.args.base c.args.width c.args.view.now (drop (length c.args.view.now - c.args.width) c.args.view.now) c.loop-rest.rest c.loop-rest.low c.loop-rest.over c.args.steps.now c.loop-rest.steps c.requires.least c.requires.even c.requires.leading refl (c.is_empty.ensures.0 c.loop-rest-test.false) c.loop-rest.invariant).number

pub returns-clause-over : goal.returns-clause-over
returns-clause-over g c = (trailing_all c.args.base c.args.width c.args.view.now (drop (length c.args.view.now - c.args.width) c.args.view.now) c.loop-rest.rest c.loop-rest.low c.loop-rest.over c.args.steps.now c.loop-rest.steps c.requires.least c.requires.even c.requires.leading refl (c.is_empty.ensures.0 c.loop-rest-test.false) c.loop-rest.invariant).full
