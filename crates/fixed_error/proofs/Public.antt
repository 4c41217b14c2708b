-- Lemmas for the proofs of dependent crates.
use Rattle.fixed_error.specs.Laws.{AboveNotWithin, FirstGreatestIsTheOne, WithinEachLonger}
use Rattle.fixed_error.proofs.GrowthLemmas
use Rattle.fixed_error.proofs.UniqueLemmas

pub first_greatest_one : FirstGreatestIsTheOne
first_greatest_one = UniqueLemmas.first_greatest_is_the_one

pub above_not_within : AboveNotWithin
above_not_within = GrowthLemmas.above_not_within

pub within_each_longer : WithinEachLonger
within_each_longer = GrowthLemmas.within_each_longer
