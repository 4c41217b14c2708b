use Rattle.fixed_laws.proofs.ReadingLemmas.{reading_one}
use Rattle.fixed_laws.proofs.laws.reading_is_the_one.Goals as goal

pub returns : goal.returns
returns c = reading_one
