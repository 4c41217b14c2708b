use Rattle.fixed_show.proofs.MeasureLemmas.{error_text_one}
use Rattle.fixed_show.proofs.laws.error_text_is_the_one.Goals as goal

pub returns : goal.returns
returns c = error_text_one
