use Rattle.std.proofs.Common.{◌+◌, ◌-◌, arith}
use Rattle.fixed_numeral.proofs.PlaceLemmas.{core_is, core_length, nothing_placed, before_placed, after_placed, inside_placed}
use Rattle.fixed_numeral.proofs.digit_view.views_at_moved_point.Goals as goal

pub with_zeros_before-requires : goal.with_zeros_before-requires
with_zeros_before-requires g c = omega (arith, core_length c.without_trailing-left.result.0 c.without_trailing-left.result.1 c.between-core.result c.between-core.ensures)

pub with_zeros_after-requires : goal.with_zeros_after-requires
with_zeros_after-requires g c = omega (arith, core_length c.without_trailing-left.result.0 c.without_trailing-left.result.1 c.between-core.result c.between-core.ensures)

pub split_at-requires : goal.split_at-requires
split_at-requires g c = omega (arith, core_length c.without_trailing-left.result.0 c.without_trailing-left.result.1 c.between-core.result c.between-core.ensures)

pub returns-then-count-eq0-clause-placed : goal.returns-then-count-eq0-clause-placed
returns-then-count-eq0-clause-placed g c = nothing_placed c.args.whole.now c.args.fraction.now c.between-core.result c.none.result c.none-then-count-eq0.result (c.len.result + c.len-2.result - (c.len-3.result + c.len-4.result)) c.args.up c.args.down (core_is c.args.whole.now c.args.fraction.now c.without_leading-left.result.0 c.without_leading-left.result.1 c.without_trailing-left.result.0 c.without_trailing-left.result.1 c.between-core.result (c.len.result + c.len-2.result - (c.len-3.result + c.len-4.result)) c.without_leading-left.ensures.digits c.without_trailing-left.ensures.digits (omega (arith, c.len.ensures, c.len-2.ensures, c.len-3.ensures, c.len-4.ensures, c.without_leading-left.ensures.shorter)) c.between-core.ensures) (omega (arith, core_length c.without_trailing-left.result.0 c.without_trailing-left.result.1 c.between-core.result c.between-core.ensures)) c.none.ensures c.none-then-count-eq0.ensures

pub returns-then-place-dropped-clause-placed : goal.returns-then-place-dropped-clause-placed
returns-then-place-dropped-clause-placed g c = before_placed c.args.whole.now c.args.fraction.now c.between-core.result _ _ (c.len.result + c.len-2.result - (c.len-3.result + c.len-4.result)) c.args.up c.args.down ((c.len.result + c.len-2.result - (c.len-3.result + c.len-4.result)) + c.args.down - (c.len-9.result + c.args.up)) (core_is c.args.whole.now c.args.fraction.now c.without_leading-left.result.0 c.without_leading-left.result.1 c.without_trailing-left.result.0 c.without_trailing-left.result.1 c.between-core.result (c.len.result + c.len-2.result - (c.len-3.result + c.len-4.result)) c.without_leading-left.ensures.digits c.without_trailing-left.ensures.digits (omega (arith, c.len.ensures, c.len-2.ensures, c.len-3.ensures, c.len-4.ensures, c.without_leading-left.ensures.shorter)) c.between-core.ensures) (omega (arith, core_length c.without_trailing-left.result.0 c.without_trailing-left.result.1 c.between-core.result c.between-core.ensures)) (omega arith) c.none-then-place-dropped.ensures c.with_zeros_before.ensures

pub returns-then-place-dropped-2-clause-placed : goal.returns-then-place-dropped-2-clause-placed
returns-then-place-dropped-2-clause-placed g c = after_placed c.args.whole.now c.args.fraction.now c.between-core.result _ _ (c.len.result + c.len-2.result - (c.len-3.result + c.len-4.result)) c.args.up c.args.down (c.len-9.result + c.args.up - ((c.len.result + c.len-2.result - (c.len-3.result + c.len-4.result)) + c.args.down) - (c.len-5.result + c.len-6.result)) (core_is c.args.whole.now c.args.fraction.now c.without_leading-left.result.0 c.without_leading-left.result.1 c.without_trailing-left.result.0 c.without_trailing-left.result.1 c.between-core.result (c.len.result + c.len-2.result - (c.len-3.result + c.len-4.result)) c.without_leading-left.ensures.digits c.without_trailing-left.ensures.digits (omega (arith, c.len.ensures, c.len-2.ensures, c.len-3.ensures, c.len-4.ensures, c.without_leading-left.ensures.shorter)) c.between-core.ensures) (omega (arith, core_length c.without_trailing-left.result.0 c.without_trailing-left.result.1 c.between-core.result c.between-core.ensures)) (omega (arith, core_length c.without_trailing-left.result.0 c.without_trailing-left.result.1 c.between-core.result c.between-core.ensures)) c.with_zeros_after.ensures c.none-then-place-dropped-2.ensures

pub returns-else-place-dropped-2-clause-placed : goal.returns-else-place-dropped-2-clause-placed
returns-else-place-dropped-2-clause-placed g c = inside_placed c.args.whole.now c.args.fraction.now c.between-core.result _ _ (c.len.result + c.len-2.result - (c.len-3.result + c.len-4.result)) c.args.up c.args.down (c.len-9.result + c.args.up - ((c.len.result + c.len-2.result - (c.len-3.result + c.len-4.result)) + c.args.down)) (core_is c.args.whole.now c.args.fraction.now c.without_leading-left.result.0 c.without_leading-left.result.1 c.without_trailing-left.result.0 c.without_trailing-left.result.1 c.between-core.result (c.len.result + c.len-2.result - (c.len-3.result + c.len-4.result)) c.without_leading-left.ensures.digits c.without_trailing-left.ensures.digits (omega (arith, c.len.ensures, c.len-2.ensures, c.len-3.ensures, c.len-4.ensures, c.without_leading-left.ensures.shorter)) c.between-core.ensures) (omega (arith, core_length c.without_trailing-left.result.0 c.without_trailing-left.result.1 c.between-core.result c.between-core.ensures)) (omega arith) c.split_at.ensures.prefix c.split_at.ensures.back
