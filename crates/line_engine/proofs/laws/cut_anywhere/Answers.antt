use Rattle.line_engine.proofs.LineLawLemmas.{cut_anywhere}
use Rattle.line_engine.proofs.laws.cut_anywhere.Goals as goal

pub returns : goal.returns
returns c = cut_anywhere
