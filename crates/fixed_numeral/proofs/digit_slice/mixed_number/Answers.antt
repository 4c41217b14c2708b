use Rattle.std.proofs.Common.{arith, sym, refl, ltb-true}
use Rattle.fixed_numeral.proofs.StripLemmas.{number_none, number_step, number_pass, number_next_fits, number_end}
use Rattle.fixed_numeral.proofs.digit_slice.mixed_number.Goals.{then-is_digit, else-is_digit}
use Rattle.fixed_numeral.proofs.digit_slice.mixed_number.Goals as goal

pub loop-b-init : goal.loop-b-init
loop-b-init c = number_none c.args.base c.args.start c.args.bytes.now

pub overflow_mul-number : goal.overflow_mul-number
overflow_mul-number c =
    let small = ltb-true _ _ (sym c.if-is_digit.ensures) in
    let fits = number_next_fits c.args.base c.args.start c.args.bytes.now c.loop-b.b-index c.loop-b.number _ c.loop-b.invariant c.loop-b-test.true refl small c.requires.digits c.requires.least c.requires.room in
    omega (arith, fits)

pub overflow_add-number : goal.overflow_add-number
overflow_add-number c =
    let small = ltb-true _ _ (sym c.if-is_digit.ensures) in
    let fits = number_next_fits c.args.base c.args.start c.args.bytes.now c.loop-b.b-index c.loop-b.number _ c.loop-b.invariant c.loop-b-test.true refl small c.requires.digits c.requires.least c.requires.room in
    omega (arith, fits, c.from.ensures, c.value_of_digit.ensures)

pub loop-b-preserved : goal.loop-b-preserved
loop-b-preserved c =
    elim c.if-is_digit.branch [
      | then-is_digit w ↦ rw (w.number-is, w.from.ensures, w.value_of_digit.ensures) (number_step c.args.base c.args.start c.args.bytes.now c.loop-b.b-index c.loop-b.number _ c.loop-b.invariant c.loop-b-test.true refl (ltb-true _ _ (sym w.if-is_digit.ensures)))
      | else-is_digit w ↦ rw w.number-is (number_pass c.args.base c.args.start c.args.bytes.now c.loop-b.b-index c.loop-b.number c.loop-b.invariant c.loop-b-test.true (sym w.if-is_digit.ensures))
    ]

pub returns : goal.returns
returns c = number_end c.args.base c.args.start c.args.bytes.now c.loop-b.b-index c.loop-b.number c.loop-b.invariant (omega arith)
