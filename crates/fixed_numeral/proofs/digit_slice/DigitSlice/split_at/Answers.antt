use Rattle.std.proofs.Common.{ap, arith, length, length-drop}
use Rattle.fixed_numeral.proofs.DigitLemmas.{back_is, prefix_is}
use Rattle.fixed_numeral.proofs.digit_slice.DigitSlice.split_at.Goals as goal

pub invariant_of-result-2 : goal.invariant_of-result-2
invariant_of-result-2 c =
    let e = back_is c.self.inside.bytes.now c.args.self.now c.byte_index-place.result c.args.i c.self.view_is c.byte_index-place.ensures.digits in
    omega (arith, ap length e, length-drop c.args.i c.args.self.now, ap length c.self.view_is)

pub returns-clause-prefix : goal.returns-clause-prefix
returns-clause-prefix c = prefix_is c.self.inside.bytes.now c.args.self.now c.byte_index-place.result c.args.i c.self.view_is c.byte_index-place.ensures.digits

pub returns-clause-back : goal.returns-clause-back
returns-clause-back c = back_is c.self.inside.bytes.now c.args.self.now c.byte_index-place.result c.args.i c.self.view_is c.byte_index-place.ensures.digits
