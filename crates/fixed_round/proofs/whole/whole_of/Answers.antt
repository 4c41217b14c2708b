use Rattle.std.proofs.Common.{rules, arith, ◌≡◌, ◌∙◌, sym, ◌+◌, ◌^◌, ℤ, pos, ◌*ℤ◌, ◌+ℤ◌, ◌-ℤ◌, FitsSigned, to_z, of_z, Bool, true, false}
use Rattle.std.specs.Int.{w128, is_negative}
use Rattle.std.proofs.lemmas.Int.{ints, to_z-of_z}
use Rattle.std.proofs.Math.Pow.{pow_mono}
use Rattle.fixed_bits.specs.Down.{IsDown}
use Rattle.fixed_bits.proofs.Integers.{next_times}
use Rattle.fixed_bits.proofs.Public.{down_equal}
use Rattle.fixed_round.specs.Whole.{is_up, whole_distance}
use Rattle.fixed_round.proofs.WholeLemmas.{floor_at_most, floor_next, distance_below, up_is, low_is}
use Rattle.fixed_round.proofs.whole.whole_of.Goals as goal
use Rattle.fixed_round.proofs.whole.whole_of.Goals.{After-unsigned_abs, After-is_rounded_up}

moved : (c : After-unsigned_abs) → IsDown c.args.b c.args.f 0 c.floor_of-floor.result
moved c = rw (to_z-of_z w128 c.args.b c.ranges.b) at c.floor_of-floor.ensures.relation

low_value : (c : After-unsigned_abs) → c.bits_of_whole-low.result ≡ c.floor_of-floor.result *ℤ pos (2 ^ c.args.f)
low_value c =
    let f : FitsSigned w128 c.floor_of-floor.result = search rules in
    rw (to_z-of_z w128 c.floor_of-floor.result f) at c.bits_of_whole-low.ensures

rest_is : (c : After-unsigned_abs) → c.unsigned_abs-rest.result ≡ whole_distance c.args.b c.args.f c.floor_of-floor.result
rest_is c =
    let b = c.args.b in
    let w = c.floor_of-floor.result in
    let p = pow_mono c.requires.frac in
    let f : FitsSigned w128 c.bits_of_whole-low.result = search rules in
    let g : FitsSigned w128 (b -ℤ w *ℤ pos (2 ^ c.args.f)) = omega (arith, ints, floor_at_most b w c.args.f (moved c), floor_next b w c.args.f (moved c), p) in
    rw (to_z-of_z w128 b c.ranges.b, to_z-of_z w128 c.bits_of_whole-low.result f, low_value c, to_z-of_z w128 (b -ℤ w *ℤ pos (2 ^ c.args.f)) g) at c.unsigned_abs-rest.ensures.value

unit_is : (c : After-unsigned_abs) → c.unsigned_abs.result ≡ 2 ^ c.args.f
unit_is c = let p = pow_mono c.requires.frac in omega (arith, ints, c.unsigned_abs.ensures.value, c.unit-unit.ensures, p)

chosen : (c : After-is_rounded_up) (v : Bool) → c.is_rounded_up.result ≡ v → is_up c.args.rounding (is_negative c.args.b) c.floor_of-floor.result (whole_distance c.args.b c.args.f c.floor_of-floor.result) (2 ^ c.args.f) ≡ v
chosen c v e =
    let d = c.before in
    let f : FitsSigned w128 c.floor_of-floor.result = search rules in
    let h = rw (to_z-of_z w128 c.args.b c.ranges.b, to_z-of_z w128 c.floor_of-floor.result f, rest_is d, unit_is d) at c.is_rounded_up.ensures in
    sym h ∙ e

pub is_rounded_up-requires : goal.is_rounded_up-requires
is_rounded_up-requires c =
    let p = pow_mono c.requires.frac in
    omega (arith, rest_is c, distance_below c.args.b c.floor_of-floor.result c.args.f (moved c), p)

-- the bits of the next whole number
next_value : (c : After-unsigned_abs) → FitsSigned w128 (to_z w128 (of_z w128 c.bits_of_whole-low.result) +ℤ to_z w128 (of_z w128 c.unit-unit.result)) × (to_z w128 (of_z w128 c.bits_of_whole-low.result) +ℤ to_z w128 (of_z w128 c.unit-unit.result) ≡ (c.floor_of-floor.result +ℤ pos 1) *ℤ pos (2 ^ c.args.f))
next_value c =
    let b = c.args.b in
    let w = c.floor_of-floor.result in
    let f = c.args.f in
    let p = pow_mono c.requires.frac in
    let l : FitsSigned w128 c.bits_of_whole-low.result = search rules in
    let u : FitsSigned w128 c.unit-unit.result = search rules in
    let fits : FitsSigned w128 ((w *ℤ pos (2 ^ f)) +ℤ pos (2 ^ f)) = omega (arith, ints, floor_at_most b w f (moved c), floor_next b w f (moved c), p, c.requires.wide.low, c.requires.wide.high) in
    rw (to_z-of_z w128 c.bits_of_whole-low.result l, to_z-of_z w128 c.unit-unit.result u, low_value c, c.unit-unit.ensures) (fits, sym (next_times w (2 ^ f)))

pub overflow_add-result : goal.overflow_add-result
overflow_add-result c = (next_value (goal.at.overflow_add-result c).After-unsigned_abs).0

pub returns-then-is_rounded_up : goal.returns-then-is_rounded_up
returns-then-is_rounded_up c =
    let d = (goal.at.returns-then-is_rounded_up c).After-unsigned_abs in
    let n = next_value d in
    to_z-of_z w128 (to_z w128 (of_z w128 c.bits_of_whole-low.result) +ℤ to_z w128 (of_z w128 c.unit-unit.result)) n.0 ∙ n.1 ∙ up_is c.args.rounding c.args.b c.args.f c.floor_of-floor.result (down_equal c.args.b c.args.f 0 c.floor_of-floor.result (moved d)) (chosen (goal.at.returns-then-is_rounded_up c).After-is_rounded_up true c.if-is_rounded_up.true)

pub returns-else-is_rounded_up : goal.returns-else-is_rounded_up
returns-else-is_rounded_up c =
    let d = (goal.at.returns-else-is_rounded_up c).After-unsigned_abs in
    let t : FitsSigned w128 c.bits_of_whole-low.result = search rules in
    rw (to_z-of_z w128 c.bits_of_whole-low.result t, low_value d) (low_is c.args.rounding c.args.b c.args.f c.floor_of-floor.result (down_equal c.args.b c.args.f 0 c.floor_of-floor.result (moved d)) (chosen (goal.at.returns-else-is_rounded_up c).After-is_rounded_up false c.if-is_rounded_up.false))
