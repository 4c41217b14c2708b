use Rattle.std.proofs.Common.{refl}
use Rattle.run_engine.specs.Seen.{moment}
use Rattle.fixed_words.specs.declared.splitter.WordBytes.{WordBytes}
use Rattle.fixed_words.proofs.WordLemmas.{end_breaks, end_goes}
use Rattle.fixed_words.proofs.splitter.WordBytesPieces.finish.Goals as goal

pub returns-in-Err : goal.returns-in-Err
returns-in-Err g c = λ first bytes made spent makes.
    let a = moment (g.I.Streams.seen c.args.out.now.io) c.args.out.now.text c.args.steps.now in
    let b = moment (g.I.Streams.seen c.end_word.new.out.io) c.end_word.new.out.text c.end_word.new.steps in
    let new : WordBytes g.row.J.Denot = record { rule = c.args.self.now.rule; words = c.end_word.new.self; rejects = c.end_word.new.rejects } in
    end_breaks g.J.Sink.written g.J.Sink.failures first c.args.self.now new bytes made spent a b refl makes c.end_word.ensures.tells c.in-Err.ensures.err

pub returns-in-Ok : goal.returns-in-Ok
returns-in-Ok g c = λ first bytes made spent makes.
    let a = moment (g.I.Streams.seen c.args.out.now.io) c.args.out.now.text c.args.steps.now in
    let b = moment (g.I.Streams.seen c.end_word.new.out.io) c.end_word.new.out.text c.end_word.new.steps in
    let new : WordBytes g.row.J.Denot = record { rule = c.args.self.now.rule; words = c.end_word.new.self; rejects = c.end_word.new.rejects } in
    end_goes g.J.Sink.written g.J.Sink.failures first c.args.self.now new bytes made spent a b refl makes c.end_word.ensures.tells c.in-Ok.ensures.ok
