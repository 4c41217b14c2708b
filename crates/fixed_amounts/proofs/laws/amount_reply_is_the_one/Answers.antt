use Rattle.fixed_amounts.specs.Lemmas.ReplyLemmas.{amount_reply_one}
use Rattle.fixed_amounts.proofs.laws.amount_reply_is_the_one.Goals as goal

pub returns : goal.returns
returns c = amount_reply_one
