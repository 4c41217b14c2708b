use Rattle.std.proofs.Common.{drop}
use Rattle.fixed_read.proofs.DecimalLemmas.{candidate_word, part_settled}
use Rattle.fixed_read.proofs.decimal.fine_decimal_ulps.Goals as goal

pub ulps_and_lost_fraction-requires-clause-ulps : goal.ulps_and_lost_fraction-requires-clause-ulps
ulps_and_lost_fraction-requires-clause-ulps g c = candidate_word c.args.view.now (drop 27 c.args.view.now) c.leading_number_u128-block.result 27 c.args.frac c.candidate_of.result.ulps c.candidate_of.result.rest 7450580596923828125 c.candidate_of.result.bits c.requires.digits c.leading_number_u128-block.ensures.led c.candidate_of.ensures.candidate c.requires.frac

pub returns-clause-ulps : goal.returns-clause-ulps
returns-clause-ulps g c = part_settled c.args.view.now (drop 27 c.args.view.now) c.leading_number_u128-block.result 27 c.args.frac c.candidate_of.result.ulps c.candidate_of.result.rest 7450580596923828125 c.candidate_of.result.bits c.requires.digits c.leading_number_u128-block.ensures.led c.candidate_of.ensures.candidate c.ulps_and_lost_fraction.result.0 c.ulps_and_lost_fraction.result.1 c.ulps_and_lost_fraction.ensures.settled
