use Rattle.std.proofs.Common.{◌<◌, length, arith}
use Rattle.fixed_respell.specs.Answer.{fault_message}
use Rattle.fixed_respell.specs.LineWords.{longest_line}
use Rattle.fixed_respell.specs.declared.fault.LineFault.TheVariants.{LineTooLong}
use Rattle.fixed_command.specs.Convert.{IsReply, asking_line}
use Rattle.fixed_command.specs.Lemmas.ReplyLemmas.{long_reply}
use Rattle.fixed_command.proofs.AskingLemmas.{err_replies}
use Rattle.fixed_command.proofs.convert.ConvertRule.reply_or_refuse.Goals as goal

pub returns-then-is_too_long-clause-reply : goal.returns-then-is_too_long-clause-reply
returns-then-is_too_long-clause-reply g c =
    let s = c.args.self.now in
    let long : longest_line < length (asking_line s c.args.numeral.now) = c.is_too_long.ensures.0 c.if-is_too_long.true in
    err_replies (IsReply s) 192 c.args.numeral.now c.args.out.now (fault_message LineTooLong) (record { text = c.words.result }) (omega arith) c.words.ensures (omega arith) (long_reply s c.args.numeral.now long)
