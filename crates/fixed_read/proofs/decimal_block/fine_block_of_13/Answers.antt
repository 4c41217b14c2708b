use Rattle.std.proofs.Common.{◌^◌, ◌∙◌, arith, pow_pos, mul-le-mul_left}
use Rattle.fixed_read.proofs.ShareLemmas.{few_bits, fine_sum, fine_below}
use Rattle.fixed_read.proofs.decimal_block.fine_block_of_13.Goals as goal

pub shl_u64-requires-2-clause-room : goal.shl_u64-requires-2-clause-room
shl_u64-requires-2-clause-room c = omega (arith, mul-le-mul_left c.divided_by_five_to_13-ulps.result.1 (few_bits c.args.finer c.requires.finer), c.divided_by_five_to_13-ulps.ensures.small)

pub overflow_add-result : goal.overflow_add-result
overflow_add-result c = rw c.shl_u64-3.ensures (omega (arith, fine_below c.args.block c.divided_by_five_to_13-ulps.result.0 c.divided_by_five_to_13-ulps.result.1 c.divided_by_five_to_13-more.result.0 c.divided_by_five_to_13-more.result.1 (2 ^ c.args.finer) (c.divided_by_five_to_13-ulps.ensures.split ∙ c.shl_u64.ensures) (c.divided_by_five_to_13-more.ensures.split ∙ c.shl_u64-2.ensures) c.requires.block (pow_pos c.args.finer), few_bits c.args.finer c.requires.finer))

pub returns-clause-split : goal.returns-clause-split
returns-clause-split c = rw c.shl_u64-3.ensures (fine_sum c.args.block c.divided_by_five_to_13-ulps.result.0 c.divided_by_five_to_13-ulps.result.1 c.divided_by_five_to_13-more.result.0 c.divided_by_five_to_13-more.result.1 (2 ^ c.args.finer) (c.divided_by_five_to_13-ulps.ensures.split ∙ c.shl_u64.ensures) (c.divided_by_five_to_13-more.ensures.split ∙ c.shl_u64-2.ensures))

pub returns-clause-below : goal.returns-clause-below
returns-clause-below c = rw c.shl_u64-3.ensures (fine_below c.args.block c.divided_by_five_to_13-ulps.result.0 c.divided_by_five_to_13-ulps.result.1 c.divided_by_five_to_13-more.result.0 c.divided_by_five_to_13-more.result.1 (2 ^ c.args.finer) (c.divided_by_five_to_13-ulps.ensures.split ∙ c.shl_u64.ensures) (c.divided_by_five_to_13-more.ensures.split ∙ c.shl_u64-2.ensures) c.requires.block (pow_pos c.args.finer))
