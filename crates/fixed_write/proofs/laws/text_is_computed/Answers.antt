use Rattle.fixed_write.proofs.TextLemmas.{shortest_text_computed}
use Rattle.fixed_write.proofs.laws.text_is_computed.Goals as goal

pub returns : goal.returns
returns c = shortest_text_computed
