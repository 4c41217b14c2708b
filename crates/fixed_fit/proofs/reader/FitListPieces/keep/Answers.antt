use Rattle.std.proofs.Common.{◌+◌, [], append-nil, refl, sym}
use Rattle.run_engine.proofs.Public.{quiet_of}
use Rattle.run_engine.specs.Machines.{going, lacking}
use Rattle.fixed_fit.specs.Run.{asked_by}
use Rattle.fixed_fit.specs.declared.reader.FitList.{FitList}
use Rattle.fixed_fit.proofs.ReadingLemmas.{lacks, makes_on, part_read, silent}
use Rattle.fixed_fit.proofs.reader.FitListPieces.keep.Goals as goal

pub returns-in-Err : goal.returns-in-Err
returns-in-Err g c = λ first bytes made spent makes.
    let old = c.args.self.now in
    let reader = old.reader in
    let new : FitList = record { question = old.question; widths = old.widths; bound = old.bound; reader = record { line = c.extend.new.line; progress = reader.progress; errors = reader.errors; within = reader.within; layout = reader.layout }; unfit = old.unfit } in
    let next = c.args.part.now in
    let cost = c.args._steps.now in
    record {
      some = next;
      rest = [];
      cut = sym (append-nil next);
      goes = silent first new bytes made next spent lacking (g.I.Streams.seen c.args._out.now.io) c.args._out.now.text cost cost (lacks first old new bytes made next spent (spent + cost) makes refl refl refl);
    }

pub returns-in-Ok : goal.returns-in-Ok
returns-in-Ok g c = λ first bytes made spent makes.
    let old = c.args.self.now in
    let reader = old.reader in
    let new : FitList = record { question = old.question; widths = old.widths; bound = old.bound; reader = record { line = c.extend.new.line; progress = reader.progress; errors = reader.errors; within = reader.within; layout = reader.layout }; unfit = old.unfit } in
    let next = c.args.part.now in
    let cost = c.args._steps.now in
    let r = first.question.radix in
    let a = asked_by first.question first.widths first.bound.items in
    silent first new bytes made next spent going (g.I.Streams.seen c.args._out.now.io) c.args._out.now.text cost cost
    (makes_on first old new bytes made next spent (spent + cost) makes refl refl refl (λ h. part_read r a first.reader.layout bytes next reader new.reader (quiet_of next c.requires.part) c.in-Ok.ensures refl (λ k. k) h))
