use Rattle.line_engine.proofs.RunLawLemmas.{text_end_one}
use Rattle.line_engine.proofs.laws.text_end_is_the_one.Goals as goal

pub returns : goal.returns
returns c = text_end_one
