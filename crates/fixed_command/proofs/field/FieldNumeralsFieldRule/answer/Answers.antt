use Rattle.std.proofs.Common.{false, subst}
use Rattle.fixed_command.specs.Fields.{IsPointReply}
use Rattle.fixed_command.proofs.FieldLemmas.{point_field}
use Rattle.fixed_command.proofs.field.FieldNumeralsFieldRule.answer.Goals as goal

pub returns-then-self-eq46 : goal.returns-then-self-eq46
returns-then-self-eq46 g c =
    let form = c.args.self.now.form.now in
    let radix = c.args.self.now.radix in
    let A = g.R.FieldReply.Replies c.args.self.now.rule.now in
    let text = c.reply_with_point.new.out in
    let point : IsPointReply form radix A c.args.field.now (record { text = text; fault = false }) =
    subst (λ b. IsPointReply form radix A c.args.field.now (record { text = text; fault = b })) c.if-reply_with_point.false c.reply_with_point.ensures in
    point_field form radix A c.args.field.now text c.if-self-eq46.true point
