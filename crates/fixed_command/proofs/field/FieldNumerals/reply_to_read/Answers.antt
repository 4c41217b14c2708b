use Rattle.fixed_command.proofs.FieldLemmas.{plain_reply}
use Rattle.fixed_command.proofs.field.FieldNumerals.reply_to_read.Goals as goal

pub returns-then-is_plain : goal.returns-then-is_plain
returns-then-is_plain g c field same =
    plain_reply c.args.self.now.form.now c.args.self.now.radix (g.R.FieldReply.Replies c.args.self.now.rule.now) field c.args.bytes.now (record { text = c.reply_to.new.out; fault = c.reply_to.result })
    same (c.is_plain.ensures.decimal c.if-is_plain.true) (c.is_plain.ensures.thousands c.if-is_plain.true) c.reply_to.ensures
