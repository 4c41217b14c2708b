use Rattle.fixed_command.proofs.convert.ConvertRule.push_reply.Goals as goal

pub returns-in-Ok-clause-reply : goal.returns-in-Ok-clause-reply
returns-in-Ok-clause-reply g c =
    let r = c.in-Ok.ensures.reply in
    record { text = r.text; answer = r.answer; appended = r.appended; short = r.short }
