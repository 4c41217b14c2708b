use Rattle.line_engine.specs.Lines.{lines}
use Rattle.fixed_constants.proofs.PlainLemmas.{lines_kept}
use Rattle.fixed_constants.proofs.laws.lines_keep_their_numbers.Goals as goal

pub returns : goal.returns
returns c text = lines_kept c.line_comes_first.ensures (lines text)
