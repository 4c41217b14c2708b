use Rattle.std.proofs.Common.{arith, sym, ap, length}
use Rattle.fixed_numeral.proofs.StripLemmas.{led_none, led_zero, led_other, led_found, led_end}
use Rattle.fixed_numeral.proofs.digit_slice.DigitSlice.without_leading.Goals.{then-b-eq48, else-b-eq48+else-is_digit}
use Rattle.fixed_numeral.proofs.digit_slice.DigitSlice.without_leading.Goals as goal

pub loop-i-init : goal.loop-i-init
loop-i-init c = led_none c.self.inside.bytes.now

pub overflow_sub-result : goal.overflow_sub-result
overflow_sub-result c =
    let found = led_found c.self.inside.bytes.now c.args.self.now c.loop-i.i c.loop-i.zeros c.self.view_is c.loop-i.invariant c.loop-i-test.true c.if-b-eq48.false (sym c.if-is_digit.ensures) in
    omega (arith, found.count, ap length c.self.view_is)

pub invariant_of-result : goal.invariant_of-result
invariant_of-result c =
    let found = led_found c.self.inside.bytes.now c.args.self.now c.loop-i.i c.loop-i.zeros c.self.view_is c.loop-i.invariant c.loop-i-test.true c.if-b-eq48.false (sym c.if-is_digit.ensures) in
    omega (arith, found.count, ap length c.self.view_is)

pub returns-then-is_digit : goal.returns-then-is_digit
returns-then-is_digit c = (led_found c.self.inside.bytes.now c.args.self.now c.loop-i.i c.loop-i.zeros c.self.view_is c.loop-i.invariant c.loop-i-test.true c.if-b-eq48.false (sym c.if-is_digit.ensures)).leading

pub loop-i-preserved : goal.loop-i-preserved
loop-i-preserved c =
    elim c.if-b-eq48.branch [
      | then-b-eq48 w ↦ rw w.zeros-is (led_zero c.self.inside.bytes.now c.loop-i.i c.loop-i.zeros c.loop-i.invariant c.loop-i-test.true w.if-b-eq48.true)
      | else-b-eq48+else-is_digit w ↦ rw w.zeros-is (led_other c.self.inside.bytes.now c.loop-i.i c.loop-i.zeros c.loop-i.invariant c.loop-i-test.true (sym w.if-is_digit.ensures))
    ]

pub returns : goal.returns
returns c = led_end c.self.inside.bytes.now c.args.self.now c.none.result c.loop-i.i c.loop-i.zeros c.self.view_is c.loop-i.invariant (omega arith) c.none.ensures
