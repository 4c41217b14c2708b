use Rattle.fixed_command.specs.Lemmas.ReplyLemmas.{line_reply_one, reply_one}
use Rattle.fixed_command.proofs.laws.reply_is_the_one.Goals as goal

pub returns : goal.returns
returns c = record { numeral = reply_one; line = line_reply_one }
