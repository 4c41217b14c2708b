use Rattle.fixed_laws.proofs.ReadingLemmas.{overflowing_read_one}
use Rattle.fixed_laws.proofs.laws.overflowing_read_is_the_one.Goals as goal

pub returns : goal.returns
returns c = overflowing_read_one
