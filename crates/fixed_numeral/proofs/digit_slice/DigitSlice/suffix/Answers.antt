use Rattle.std.proofs.Common.{ap, arith, length, length-drop}
use Rattle.fixed_numeral.proofs.DigitLemmas.{back_is}
use Rattle.fixed_numeral.proofs.digit_slice.DigitSlice.suffix.Goals as goal

pub invariant_of-result : goal.invariant_of-result
invariant_of-result c =
    let e = back_is c.self.inside.bytes.now c.args.self.now c.byte_index-place.result c.args.i c.self.view_is c.byte_index-place.ensures.digits in
    omega (arith, ap length e, length-drop c.args.i c.args.self.now, ap length c.self.view_is)

pub returns : goal.returns
returns c = back_is c.self.inside.bytes.now c.args.self.now c.byte_index-place.result c.args.i c.self.view_is c.byte_index-place.ensures.digits
