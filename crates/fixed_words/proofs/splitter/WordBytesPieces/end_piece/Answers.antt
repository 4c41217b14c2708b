use Rattle.std.proofs.Common.{◌++◌, ◌∷◌, [], false, refl, subst, sym}
use Rattle.run_engine.specs.Machines.{BreaksAmong, Goes, going}
use Rattle.run_engine.specs.Seen.{moment}
use Rattle.fixed_words.specs.Run.{MakesBy}
use Rattle.fixed_words.specs.declared.splitter.WordBytes.{WordBytes}
use Rattle.fixed_words.proofs.WordLemmas.{byte_breaks, byte_goes, none_left}
use Rattle.fixed_words.proofs.splitter.WordBytesPieces.end_piece.Goals as goal

pub returns-in-Err : goal.returns-in-Err
returns-in-Err g c = λ first bytes made spent makes.
    let a = moment (g.I.Streams.seen c.args.out.now.io) c.args.out.now.text c.args.steps.now in
    let b = moment (g.I.Streams.seen c.push.new.out.io) c.push.new.out.text c.push.new.steps in
    let new : WordBytes g.row.J.Denot = record { rule = c.args.self.now.rule; words = c.push.new.self; rejects = c.push.new.rejects } in
    subst (λ l. BreaksAmong (MakesBy g.J.Sink.written g.J.Sink.failures first) false bytes made spent (l ++ c.args.byte ∷ []) new a b) (sym (none_left c.args._part.now c.requires.part))
    (byte_breaks g.J.Sink.written g.J.Sink.failures first c.args.self.now new bytes made spent a b refl makes c.args.byte c.in-Err.ensures.err)

pub returns-in-Ok : goal.returns-in-Ok
returns-in-Ok g c = λ first bytes made spent makes.
    let a = moment (g.I.Streams.seen c.args.out.now.io) c.args.out.now.text c.args.steps.now in
    let b = moment (g.I.Streams.seen c.push.new.out.io) c.push.new.out.text c.push.new.steps in
    let new : WordBytes g.row.J.Denot = record { rule = c.args.self.now.rule; words = c.push.new.self; rejects = c.push.new.rejects } in
    subst (λ l. Goes (MakesBy g.J.Sink.written g.J.Sink.failures first) bytes made spent (l ++ c.args.byte ∷ []) going new a b) (sym (none_left c.args._part.now c.requires.part))
    (byte_goes g.J.Sink.written g.J.Sink.failures first c.args.self.now new bytes made spent a b refl makes c.args.byte c.in-Ok.ensures.ok)
