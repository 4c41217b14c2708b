use Rattle.fixed_write.proofs.PaddingLemmas.{pieces_joined}
use Rattle.fixed_write.proofs.text.written.Goals as goal

pub returns-in-Ok : goal.returns-in-Ok
returns-in-Ok c =
    pieces_joined c.args.fill.now c.args.prefix.now c.args.body.now.digits.now c.args.body.now.tail.now _ _ _ _ _ _ _ _ c.args.before c.args.inner c.args.body.now.zeros c.args.after c.in-Ok.ensures.items c.append_times.ensures.items c.append.ensures.items c.append_times-in-Ok.ensures.items c.append-in-Ok.ensures.items c.append_times-in-Ok-2.ensures.items c.append-in-Ok-2.ensures.items c.append_times-in-Ok-3.ensures.items
