use Rattle.line_engine.proofs.LineLawLemmas.{lines_are_the_input}
use Rattle.line_engine.proofs.laws.lines_are_the_input.Goals as goal

pub returns : goal.returns
returns c = lines_are_the_input
