use Rattle.std.proofs.Common.{◌-◌, refl, arith}
use Rattle.fixed_read.proofs.DecimalLemmas.{block_room, candidate_by}
use Rattle.fixed_read.proofs.decimal_block.candidate_of.Goals as goal

pub shl-requires-clause-room : goal.shl-requires-clause-room
shl-requires-clause-room c = omega (arith, block_room c.args.block 27 (c.args.frac - 27) 37 c.requires.block (omega (arith, c.requires.frac)))

pub divided_by_five_to_27-ulps-requires : goal.divided_by_five_to_27-ulps-requires
divided_by_five_to_27-ulps-requires c = rw c.shl.ensures (block_room c.args.block 27 (c.args.frac - 27) 37 c.requires.block (omega (arith, c.requires.frac)))

pub returns-clause-candidate : goal.returns-clause-candidate
returns-clause-candidate c = candidate_by c.args.block 27 c.args.frac 7450580596923828125 c.divided_by_five_to_27-ulps.result.0 c.divided_by_five_to_27-ulps.result.1 refl (omega arith) (omega (arith, c.requires.least)) (rw (← c.shl.ensures) c.divided_by_five_to_27-ulps.ensures.split) c.divided_by_five_to_27-ulps.ensures.small
