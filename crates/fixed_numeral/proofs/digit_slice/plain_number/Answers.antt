use Rattle.std.proofs.Common.{arith, refl}
use Rattle.fixed_numeral.proofs.StripLemmas.{number_none, number_step, number_next_fits, number_end, plain_at}
use Rattle.fixed_numeral.proofs.digit_slice.plain_number.Goals as goal

pub loop-b-init : goal.loop-b-init
loop-b-init c = number_none c.args.base c.args.start c.args.bytes.now

pub value_of_digit-requires : goal.value_of_digit-requires
value_of_digit-requires c = plain_at c.args.bytes.now c.loop-b.b-index c.requires.plain c.loop-b-test.true

pub overflow_mul-number : goal.overflow_mul-number
overflow_mul-number c =
    let small = plain_at c.args.bytes.now c.loop-b.b-index c.requires.plain c.loop-b-test.true in
    let fits = number_next_fits c.args.base c.args.start c.args.bytes.now c.loop-b.b-index c.loop-b.number _ c.loop-b.invariant c.loop-b-test.true refl small c.requires.digits c.requires.least c.requires.room in
    omega (arith, fits)

pub overflow_add-number : goal.overflow_add-number
overflow_add-number c =
    let small = plain_at c.args.bytes.now c.loop-b.b-index c.requires.plain c.loop-b-test.true in
    let fits = number_next_fits c.args.base c.args.start c.args.bytes.now c.loop-b.b-index c.loop-b.number _ c.loop-b.invariant c.loop-b-test.true refl small c.requires.digits c.requires.least c.requires.room in
    omega (arith, fits, c.from.ensures, c.value_of_digit.ensures)

pub loop-b-preserved : goal.loop-b-preserved
loop-b-preserved c =
    let small = plain_at c.args.bytes.now c.loop-b.b-index c.requires.plain c.loop-b-test.true in
    rw (c.from.ensures, c.value_of_digit.ensures) (number_step c.args.base c.args.start c.args.bytes.now c.loop-b.b-index c.loop-b.number _ c.loop-b.invariant c.loop-b-test.true refl small)

pub returns : goal.returns
returns c = number_end c.args.base c.args.start c.args.bytes.now c.loop-b.b-index c.loop-b.number c.loop-b.invariant (omega arith)
