use Rattle.std.proofs.Common.{◌∷◌, [], ap, arith, length-append}
use Rattle.std.specs.Int.{from_bool}
use Rattle.fixed_respell.specs.SelfMode.{Tally}
use Rattle.fixed_respell.proofs.SelfLemmas.{tally_more}
use Rattle.fixed_respell.proofs.self_mode.Counts.add.Goals as goal

pub returns-clause-tally : goal.returns-clause-tally
returns-clause-tally c replies is =
    tally_more replies c.args.reply.now c.args.self.now _ _ _ _ is
    (omega (arith, ap (λ (t : Tally). t.fit) c.self.view_is, c.times_at_the_end.ensures.ends))
    (omega (arith, ap (λ (t : Tally). t.overflowed) c.self.view_is, c.times_at_the_end-2.ensures.ends))
    (omega (arith, ap (λ (t : Tally). t.faults) c.self.view_is, c.from.ensures, ap from_bool c.is_fault.ensures))
    (omega (arith, ap (λ (t : Tally). t.bytes) c.self.view_is, c.bytes_with_newline.ensures.bytes, length-append c.args.reply.now.text (10 ∷ [])))
