use Rattle.fixed_show.proofs.JsonLemmas.{json_text_one}
use Rattle.fixed_show.proofs.laws.json_text_is_one_to_one.Goals as goal

pub returns : goal.returns
returns c = json_text_one
