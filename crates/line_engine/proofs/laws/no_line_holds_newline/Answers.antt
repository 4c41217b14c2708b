use Rattle.line_engine.proofs.LineLawLemmas.{no_line_holds_newline}
use Rattle.line_engine.proofs.laws.no_line_holds_newline.Goals as goal

pub returns : goal.returns
returns c = no_line_holds_newline
