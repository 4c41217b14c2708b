use Rattle.fixed_write.proofs.PlacesLemmas.{rounded_text_computed}
use Rattle.fixed_write.proofs.laws.rounded_text_is_computed.Goals as goal

pub returns : goal.returns
returns c = rounded_text_computed
