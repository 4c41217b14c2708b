use Rattle.std.proofs.Common.{◌++◌, ◌∷◌, ◌+◌, [], append-nil, refl, subst, sym}
use Rattle.line_engine.proofs.Public.{ten}
use Rattle.run_engine.proofs.Public.{quiet_of}
use Rattle.run_engine.specs.Machines.{Goes, going, lacking}
use Rattle.fixed_fit.specs.Run.{MakesBy, asked_by}
use Rattle.fixed_fit.specs.declared.reader.FitList.{FitList}
use Rattle.run_engine.specs.Seen.{moment}
use Rattle.fixed_fit.proofs.ReadingLemmas.{lacks, line_read, makes_on, silent}
use Rattle.fixed_fit.proofs.reader.FitListPieces.end_piece.Goals as goal

pub end_line-requires : goal.end_line-requires
end_line-requires g c =
    let k = c.requires.known in
    let q = k.0.question in
    (q.radix, asked_by q k.0.widths k.0.bound.items, k.0.reader.layout, k.1, k.4.3.1)

pub returns-in-Err : goal.returns-in-Err
returns-in-Err g c = λ first bytes made spent makes.
    let old = c.args.self.now in
    let new : FitList = record { question = old.question; widths = old.widths; bound = old.bound; reader = c.end_line.new.self; unfit = old.unfit } in
    let next = c.args.part.now ++ c.args._byte ∷ [] in
    let cost = c.end_line.new.steps in
    record {
      some = next;
      rest = [];
      cut = sym (append-nil next);
      goes = silent first new bytes made next spent lacking (g.I.Streams.seen c.args._out.now.io) c.args._out.now.text c.args.steps.now cost (lacks first old new bytes made next spent (spent + cost) makes refl refl refl);
    }

pub returns-in-Ok : goal.returns-in-Ok
returns-in-Ok g c = λ first bytes made spent makes.
    let old = c.args.self.now in
    let new : FitList = record { question = old.question; widths = old.widths; bound = old.bound; reader = c.end_line.new.self; unfit = old.unfit } in
    let part = c.args.part.now in
    let next = part ++ 10 ∷ [] in
    let cost = c.end_line.new.steps in
    let seen = g.I.Streams.seen c.args._out.now.io in
    let r = first.question.radix in
    let a = asked_by first.question first.widths first.bound.items in
    let done = c.in-Ok.ensures in
    subst (λ n. Goes (MakesBy first) bytes made spent (part ++ n ∷ []) going new (moment seen c.args._out.now.text c.args.steps.now) (moment seen c.args._out.now.text cost)) (sym (ten c.args._byte c.requires.byte))
    (silent first new bytes made next spent going seen c.args._out.now.text c.args.steps.now cost
    (makes_on first old new bytes made next spent (spent + cost) makes refl refl refl (λ h. line_read r a first.reader.layout bytes part old.reader new.reader (quiet_of part c.requires.part) done.line done.layout (λ m l k. done.ended r m l k) h)))
