use Rattle.std.proofs.Common.{arith, rules, refl}
use Rattle.fixed_write.proofs.ExactLemmas.{cut_to_places}
use Rattle.fixed_write.proofs.ScaleLemmas.{block_ten}
use Rattle.fixed_write.proofs.places.push_long_exact.Goals as goal

pub push_rounded_in-requires : goal.push_rounded_in-requires
push_rounded_in-requires g c = (search rules, (block_ten, ((λ e. omega arith), (omega arith, c.requires.room))))

pub returns : goal.returns
returns g c = cut_to_places c.args.value.whole c.args.value.rest _ _ _ c.args.value.below refl c.push_rounded_in.ensures
