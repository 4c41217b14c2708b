use Rattle.std.proofs.Common.{◌≡◌, ℕ, ◌<◌, Bool, true, false, List, refl, arith}
use Rattle.fixed_numeral.specs.declared.radix.Radix.{Radix}
use Rattle.fixed_numeral.specs.Numeral.{Parts, IsPartsOf, is_minus, fractional_digits}
use Rattle.fixed_numeral.specs.Digits.{digits_in}
use Rattle.fixed_numeral.specs.Inner.MovedPoint.{IsPlaced}
use Rattle.fixed_numeral.specs.Scanned.{IsScanned}
use Rattle.fixed_numeral.specs.Inner.Shift.{unit_of, IsShift, AgreesWithExponent}
use Rattle.fixed_numeral.proofs.MagnitudeLemmas.{same_magnitude, scanned_digits, base_pos, unit_small, unit_pos}
use Rattle.fixed_numeral.proofs.ValueLemmas.{views_of_zero}
use Rattle.fixed_numeral.proofs.scanned.Scanned.of.Goals as goal

-- after the point has moved, the digits still spell the numeral
placed_scanned : (r : Radix) (p : Parts) (neg two minus : Bool) (w f W F : List ℕ) (up down bits magnitude : ℕ) → IsPartsOf r p → neg ≡ is_minus p.sign → w ≡ digits_in p.whole → f ≡ digits_in (fractional_digits p.fraction) → AgreesWithExponent r two minus magnitude p.exponent → IsShift minus (unit_of r two) magnitude up down bits → bits < unit_of r two → IsPlaced w f W F up down → IsScanned r p neg W F bits
placed_scanned r p neg two minus w f W F up down bits magnitude h s ew ef a shift small placed =
    let digits = scanned_digits r p w f h ew ef in
    let below = placed.below _ (base_pos r) digits.0 digits.1 in
    let value = same_magnitude r p two minus w f W F up down bits magnitude h ew ef a shift small placed.value in
    record {
      sign = s;
      value = value;
      none = views_of_zero r p W F bits placed.leading placed.trailing value;
      leading = placed.leading;
      trailing = placed.trailing;
      whole_digits = below.0;
      fraction_digits = below.1;
      small = unit_small r two _ small;
    }

-- an exponent of 0 does not move the point
no_shift : (minus : Bool) (unit magnitude : ℕ) → magnitude ≡ 0 → IsShift minus unit magnitude 0 0 0
no_shift true unit magnitude e = (omega (arith, e), refl)
no_shift false unit magnitude e = (omega (arith, e), refl)

pub returns-then-magnitude-eq0-clause-value : goal.returns-then-magnitude-eq0-clause-value
returns-then-magnitude-eq0-clause-value g c = λ p h s ew ef a.
    placed_scanned c.args.radix p c.args.neg c.args.two c.args.minus c.args.whole c.args.fraction c.views_at_point-left.result.0 c.views_at_point-left.result.1 0 0 0 c.args.magnitude h s ew ef a (no_shift c.args.minus (unit_of c.args.radix c.args.two) c.args.magnitude c.if-magnitude-eq0.true) (unit_pos c.args.radix c.args.two) c.views_at_point-left.ensures.placed

pub returns-clause-value : goal.returns-clause-value
returns-clause-value g c = λ p h s ew ef a.
    let small : c.shift_of-shift.result.bits < unit_of c.args.radix c.args.two = rw c.unit_of.ensures at c.shift_of-shift.ensures.bits in
    placed_scanned c.args.radix p c.args.neg c.args.two c.args.minus c.args.whole c.args.fraction c.views_at_moved_point-whole.result.0 c.views_at_moved_point-whole.result.1 c.shift_of-shift.result.up c.shift_of-shift.result.down c.shift_of-shift.result.bits c.args.magnitude h s ew ef a (rw c.unit_of.ensures at c.shift_of-shift.ensures.shift) small c.views_at_moved_point-whole.ensures.placed
