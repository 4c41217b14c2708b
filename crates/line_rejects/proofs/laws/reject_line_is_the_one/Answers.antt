use Rattle.line_rejects.proofs.ShownLemmas.{reject_line_one}
use Rattle.line_rejects.proofs.laws.reject_line_is_the_one.Goals as goal

pub returns : goal.returns
returns c = reject_line_one
