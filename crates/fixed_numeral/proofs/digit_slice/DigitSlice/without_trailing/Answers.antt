use Rattle.std.proofs.Common.{arith, sym, ap, length}
use Rattle.fixed_numeral.proofs.StripLemmas.{trailed_none, trailed_zero, trailed_other, trailed_found, trailed_end}
use Rattle.fixed_numeral.proofs.digit_slice.DigitSlice.without_trailing.Goals.{then-b-eq48, else-b-eq48+else-is_digit}
use Rattle.fixed_numeral.proofs.digit_slice.DigitSlice.without_trailing.Goals as goal

pub loop-end-init : goal.loop-end-init
loop-end-init c = trailed_none c.self.inside.bytes.now

pub overflow_sub-result : goal.overflow_sub-result
overflow_sub-result c =
    let found = trailed_found c.self.inside.bytes.now c.args.self.now c.loop-end.end c.loop-end.zeros c.self.view_is c.loop-end.invariant c.loop-end-test.true c.if-b-eq48.false (sym c.if-is_digit.ensures) in
    omega (arith, found.count, ap length c.self.view_is)

pub invariant_of-result : goal.invariant_of-result
invariant_of-result c =
    let found = trailed_found c.self.inside.bytes.now c.args.self.now c.loop-end.end c.loop-end.zeros c.self.view_is c.loop-end.invariant c.loop-end-test.true c.if-b-eq48.false (sym c.if-is_digit.ensures) in
    omega (arith, found.count, ap length c.self.view_is)

pub returns-then-is_digit : goal.returns-then-is_digit
returns-then-is_digit c = (trailed_found c.self.inside.bytes.now c.args.self.now c.loop-end.end c.loop-end.zeros c.self.view_is c.loop-end.invariant c.loop-end-test.true c.if-b-eq48.false (sym c.if-is_digit.ensures)).trailing

pub loop-end-preserved : goal.loop-end-preserved
loop-end-preserved c =
    elim c.if-b-eq48.branch [
      | then-b-eq48 w ↦ rw w.zeros-is (trailed_zero c.self.inside.bytes.now c.loop-end.end c.loop-end.zeros c.loop-end.invariant c.loop-end-test.true w.if-b-eq48.true)
      | else-b-eq48+else-is_digit w ↦ rw w.zeros-is (trailed_other c.self.inside.bytes.now c.loop-end.end c.loop-end.zeros c.loop-end.invariant c.loop-end-test.true (sym w.if-is_digit.ensures))
    ]

pub returns : goal.returns
returns c = trailed_end c.self.inside.bytes.now c.args.self.now c.none.result c.loop-end.end c.loop-end.zeros c.self.view_is c.loop-end.invariant (omega arith) c.none.ensures
