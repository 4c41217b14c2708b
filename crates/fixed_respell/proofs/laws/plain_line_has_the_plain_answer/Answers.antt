use Rattle.fixed_respell.proofs.PlainLemmas.{plain_answer}
use Rattle.fixed_respell.proofs.laws.plain_line_has_the_plain_answer.Goals as goal

pub returns : goal.returns
returns c = plain_answer
