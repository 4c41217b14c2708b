use Rattle.std.proofs.Common.{[], refl}
use Rattle.line_rejects.proofs.PutLemmas.{puts_both, puts_closed, puts_held}
use Rattle.line_rejects.proofs.rejects.Rejects.append.Goals as goal

pub returns-then-self-clause-puts : goal.returns-then-self-clause-puts
returns-then-self-clause-puts g c =
    puts_both _ _ _ [] c.args.bytes.now c.make_room.ensures.puts (puts_held _ _ c.args.bytes.now c.if-self.true c.if-self.true refl refl refl c.push_bytes.ensures)

pub returns-else-self-clause-puts : goal.returns-else-self-clause-puts
returns-else-self-clause-puts g c = puts_both _ _ _ [] c.args.bytes.now c.make_room.ensures.puts (puts_closed _ c.args.bytes.now c.if-self.false)
