use Rattle.std.proofs.Common.{◌≡◌, refl, ◌*◌, ◌^◌, arith, ◌∙◌, ap}
use Rattle.std.specs.Int.Digits.{number_from_digits}
use Rattle.fixed_read.proofs.WholeLemmas.{sum_room, magnitude_is}
use Rattle.fixed_read.proofs.magnitude.rounded_magnitude.Goals as goal

pub shl-requires-clause-room : goal.shl-requires-clause-room
shl-requires-clause-room g c =
    let room = sum_room c.saturating_sub.result c.args.fraction_bits 64 (number_from_digits c.args.base c.args.whole.now) c.number_mod_power-low.result.0 (c.number_mod_power-low.result.0 * 2 ^ c.args.fraction_bits) c.args.more 0 (omega arith) c.requires.fraction_bits c.saturating_sub.ensures c.number_mod_power-low.ensures.number refl c.requires.more (omega arith) in
    rw c.from.ensures (omega (arith, room))

pub overflow_add-sum : goal.overflow_add-sum
overflow_add-sum g c =
    let moved : c.shl.result ≡ c.number_mod_power-low.result.0 * 2 ^ c.args.fraction_bits = c.shl.ensures ∙ ap (λ x. x * 2 ^ c.args.fraction_bits) c.from.ensures in
    let room = sum_room c.saturating_sub.result c.args.fraction_bits 64 (number_from_digits c.args.base c.args.whole.now) c.number_mod_power-low.result.0 c.shl.result c.args.more 0 (omega arith) c.requires.fraction_bits c.saturating_sub.ensures c.number_mod_power-low.ensures.number moved c.requires.more (omega arith) in
    omega (arith, room)

pub overflow_add-total : goal.overflow_add-total
overflow_add-total g c =
    let moved : c.shl.result ≡ c.number_mod_power-low.result.0 * 2 ^ c.args.fraction_bits = c.shl.ensures ∙ ap (λ x. x * 2 ^ c.args.fraction_bits) c.from.ensures in
    let room = sum_room c.saturating_sub.result c.args.fraction_bits 64 (number_from_digits c.args.base c.args.whole.now) c.number_mod_power-low.result.0 c.shl.result c.args.more c.lost_increment.result (omega arith) c.requires.fraction_bits c.saturating_sub.ensures c.number_mod_power-low.ensures.number moved c.requires.more c.lost_increment.ensures.most in
    omega (arith, room)

pub returns-clause-magnitude : goal.returns-clause-magnitude
returns-clause-magnitude g c f frac s later h =
    let moved : c.shl.result ≡ c.number_mod_power-low.result.0 * 2 ^ c.args.fraction_bits = c.shl.ensures ∙ ap (λ x. x * 2 ^ c.args.fraction_bits) c.from.ensures in
    magnitude_is c.args.mode c.args.base c.saturating_sub.result 64 s frac c.args.fraction_bits c.number_mod_power-low.result.0 c.shl.result c.args.more c.lost_increment.result c.split_bits-high.result.0 c.args.whole.now f c.args.lost c.number_mod_power-low.result.1 _ (omega (arith, c.requires.least)) refl later c.saturating_sub.ensures c.number_mod_power-low.ensures.number c.number_mod_power-low.ensures.over moved h c.lost_increment.ensures.to c.is_zero.ensures (rw c.from-2.ensures at c.split_bits-high.ensures.high) (rw c.from-2.ensures at c.split_bits-high.ensures.low) c.is_over.ensures
