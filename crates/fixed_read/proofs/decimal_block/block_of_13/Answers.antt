use Rattle.std.proofs.Common.{◌-◌, ◌*◌, ◌/◌, ◌^◌, arith, pow_pos}
use Rattle.fixed_read.proofs.ShareLemmas.{few_bits, same_scale, whole_and_low, low_below, whole_within, whole_below, share}
use Rattle.fixed_read.proofs.decimal_block.block_of_13.Goals as goal

pub shl_u64-requires-clause-room : goal.shl_u64-requires-clause-room
shl_u64-requires-clause-room c = omega (arith, whole_within c.fine_block_of_13-fine.result.0 (2 ^ c.saturating_sub-coarser.result) (pow_pos c.saturating_sub-coarser.result), c.fine_block_of_13-fine.type_inv)

pub overflow_mul-result : goal.overflow_mul-result
overflow_mul-result c =
    let q = few_bits c.saturating_sub-coarser.result (omega (arith, c.saturating_sub-coarser.ensures)) in
    rw c.shl_u64.ensures (omega (arith, q, low_below c.fine_block_of_13-fine.result.0 (2 ^ c.saturating_sub-coarser.result) (pow_pos c.saturating_sub-coarser.result)))

pub overflow_add-result : goal.overflow_add-result
overflow_add-result c =
    let q = few_bits c.saturating_sub-coarser.result (omega (arith, c.saturating_sub-coarser.ensures)) in
    rw c.shl_u64.ensures (omega (arith, q, low_below c.fine_block_of_13-fine.result.0 (2 ^ c.saturating_sub-coarser.result) (pow_pos c.saturating_sub-coarser.result), c.fine_block_of_13-fine.ensures.small))

pub returns-clause-share : goal.returns-clause-share
returns-clause-share c =
    let q = 2 ^ c.saturating_sub-coarser.result in
    let some = pow_pos c.saturating_sub-coarser.result in
    let fine = c.fine_block_of_13-fine.result.0 in
    rw (c.shl_u64.ensures, c.shl_u64-2.ensures) (share c.args.block c.args.frac (fine / q) (fine - fine / q * q) c.fine_block_of_13-fine.result.1 fine (2 ^ c.saturating_sub.result) q c.fine_block_of_13-fine.ensures.split (whole_and_low fine q some) (same_scale c.args.frac c.saturating_sub.result c.saturating_sub-coarser.result (omega (arith, c.saturating_sub.ensures, c.saturating_sub-coarser.ensures))) (low_below fine q some) c.fine_block_of_13-fine.ensures.small)

pub returns-clause-below : goal.returns-clause-below
returns-clause-below c =
    let q = 2 ^ c.saturating_sub-coarser.result in
    let scale = same_scale c.args.frac c.saturating_sub.result c.saturating_sub-coarser.result (omega (arith, c.saturating_sub.ensures, c.saturating_sub-coarser.ensures)) in
    whole_below c.fine_block_of_13-fine.result.0 q (pow_pos c.saturating_sub-coarser.result) (2 ^ c.args.frac) (rw scale c.fine_block_of_13-fine.ensures.below)

pub returns-clause-most : goal.returns-clause-most
returns-clause-most c =
    let q = few_bits c.saturating_sub-coarser.result (omega (arith, c.saturating_sub-coarser.ensures)) in
    rw c.shl_u64-2.ensures (omega (arith, q))
