use Rattle.fixed_laws.proofs.TextLemmas.{rounded_numeral}
use Rattle.fixed_laws.proofs.laws.rounded_text_is_numeral.Goals as goal

pub returns : goal.returns
returns c = rounded_numeral
