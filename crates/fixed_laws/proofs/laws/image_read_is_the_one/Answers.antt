use Rattle.fixed_laws.proofs.ReadingLemmas.{image_read_one}
use Rattle.fixed_laws.proofs.laws.image_read_is_the_one.Goals as goal

pub returns : goal.returns
returns c = image_read_one
