use Rattle.std.proofs.Common.{ap, arith, length}
use Rattle.fixed_numeral.proofs.DigitLemmas.{digits_in_none, rest_is, none_more}
use Rattle.fixed_numeral.proofs.digit_slice.DigitSlice.first.Goals as goal

pub loop-i-init : goal.loop-i-init
loop-i-init c = digits_in_none

pub overflow_sub-result : goal.overflow_sub-result
overflow_sub-result c =
    let e = rest_is c.self.inside.bytes.now c.args.self.now c.loop-i.i c.in-Some.d c.self.view_is c.loop-i-test.true c.loop-i.invariant c.in-Some.ensures.0 c.in-Some.ensures.1 in
    omega (arith, ap length e, ap length c.self.view_is)

pub invariant_of-result : goal.invariant_of-result
invariant_of-result c =
    let e = rest_is c.self.inside.bytes.now c.args.self.now c.loop-i.i c.in-Some.d c.self.view_is c.loop-i-test.true c.loop-i.invariant c.in-Some.ensures.0 c.in-Some.ensures.1 in
    omega (arith, ap length e, ap length c.self.view_is)

pub returns-in-Some : goal.returns-in-Some
returns-in-Some c =
    (rest_is c.self.inside.bytes.now c.args.self.now c.loop-i.i c.in-Some.d c.self.view_is c.loop-i-test.true c.loop-i.invariant c.in-Some.ensures.0 c.in-Some.ensures.1, c.in-Some.ensures.1)

pub loop-i-preserved : goal.loop-i-preserved
loop-i-preserved c = none_more c.self.inside.bytes.now c.loop-i.i c.loop-i-test.true c.loop-i.invariant c.in_default.ensures
