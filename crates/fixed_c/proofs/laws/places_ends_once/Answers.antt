use Rattle.fixed_c.proofs.LawLemmas
use Rattle.fixed_c.proofs.laws.places_ends_once.Goals as goal

pub returns : goal.returns
returns c = LawLemmas.places_ends_once c.rounded_text_is_computed.ensures
