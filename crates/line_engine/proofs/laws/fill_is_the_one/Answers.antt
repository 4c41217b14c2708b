use Rattle.line_engine.proofs.RunLawLemmas.{fill_one}
use Rattle.line_engine.proofs.laws.fill_is_the_one.Goals as goal

pub returns : goal.returns
returns c = fill_one
