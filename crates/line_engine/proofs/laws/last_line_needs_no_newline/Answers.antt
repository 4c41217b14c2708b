use Rattle.line_engine.proofs.FirstLineLemmas.{lines_alone, quiet_line}
use Rattle.line_engine.proofs.laws.last_line_needs_no_newline.Goals as goal

pub returns : goal.returns
returns c line some never = lines_alone line some (quiet_line line never)
