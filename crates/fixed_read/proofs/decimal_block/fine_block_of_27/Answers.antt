use Rattle.fixed_read.proofs.DecimalLemmas.{candidate_steps}
use Rattle.fixed_read.proofs.ShortNumeralLemmas.{candidate_split}
use Rattle.fixed_read.proofs.decimal_block.fine_block_of_27.Goals as goal

pub returns-clause-split : goal.returns-clause-split
returns-clause-split c = candidate_split c.args.block 27 c.args.frac c.candidate_of-found.result.ulps c.candidate_of-found.result.rest 7450580596923828125 c.candidate_of-found.result.bits c.lost_fraction_of_share.result c.candidate_of-found.ensures.candidate c.lost_fraction_of_share.ensures

pub returns-clause-below : goal.returns-clause-below
returns-clause-below c = candidate_steps c.args.block 27 c.args.frac c.candidate_of-found.result.ulps c.candidate_of-found.result.rest 7450580596923828125 c.candidate_of-found.result.bits c.requires.block c.candidate_of-found.ensures.candidate
