use Rattle.fixed_show.proofs.FormatLemmas.{survive}
use Rattle.fixed_show.proofs.laws.places_survive.Goals as goal

pub returns : goal.returns
returns c = survive
