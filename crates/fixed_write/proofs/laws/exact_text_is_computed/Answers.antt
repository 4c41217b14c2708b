use Rattle.fixed_write.proofs.PlacesLemmas.{exact_text_computed}
use Rattle.fixed_write.proofs.laws.exact_text_is_computed.Goals as goal

pub returns : goal.returns
returns c = exact_text_computed
