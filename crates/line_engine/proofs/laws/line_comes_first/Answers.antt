use Rattle.line_engine.proofs.FirstLineLemmas.{lines_at, quiet_line}
use Rattle.line_engine.proofs.laws.line_comes_first.Goals as goal

pub returns : goal.returns
returns c line rest never = lines_at line rest (quiet_line line never)
