use Rattle.fixed_respell.specs.Lemmas.AnswerLemmas.{long_by_its_prefix}
use Rattle.fixed_respell.proofs.laws.long_is_answered_by_prefix.Goals as goal

pub returns : goal.returns
returns c = long_by_its_prefix
