use Rattle.std.proofs.Common.{◌++◌, ◌+◌, [], arith, is_some, map, refl, subst, sym}
use Rattle.fixed_command.specs.LaidList.{laid}
use Rattle.line_engine.specs.Lines.{lines}
use Rattle.run_engine.specs.Machines.{finished, lacking}
use Rattle.fixed_fit.specs.Run.{MakesBy, asked_by}
use Rattle.fixed_fit.specs.Unfit.{said}
use Rattle.fixed_fit.specs.declared.reader.FitList.{FitList}
use Rattle.fixed_fit.proofs.ReadingLemmas.{ends_by, lacks, own, silent}
use Rattle.fixed_fit.proofs.reader.FitListPieces.finish.Goals as goal

pub finish-requires : goal.finish-requires
finish-requires g c =
    let k = c.requires.known in
    let q = k.0.question in
    (q.radix, asked_by q k.0.widths k.0.bound.items, k.0.reader.layout, k.1, k.4.3.1)

pub answer-answer-requires : goal.answer-answer-requires
answer-answer-requires g c =
    let k = c.requires.known in
    let old = c.args.self.now in
    let q = old.question in
    (map (laid k.0.reader.layout) (lines k.1), c.in-Ok.ensures q.radix (asked_by q old.widths old.bound.items) k.0.reader.layout k.1 (own k.0 old k.1 k.2 k.3 k.4))

pub returns-in-Err : goal.returns-in-Err
returns-in-Err g c = λ first bytes made spent makes.
    let old = c.args.self.now in
    let new : FitList = record { question = old.question; widths = old.widths; bound = old.bound; reader = c.finish.new.self; unfit = old.unfit } in
    let cost = c.finish.new.steps in
    record {
      some = [];
      rest = [];
      cut = refl;
      goes = silent first new bytes made [] spent lacking (g.I.Streams.seen c.args.out.now.io) c.args.out.now.text c.args.steps.now cost (lacks first old new bytes made [] spent (spent + cost) makes refl refl refl);
    }

pub returns-in-Err-put_answer : goal.returns-in-Err-put_answer
returns-in-Err-put_answer g c = λ first bytes made spent makes.
    let answer = c.answer-answer.result in
    let cost = c.answer-answer.new.steps in
    record {
      some = [];
      rest = [];
      cut = refl;
      how = finished (is_some c.why-self.result);
      uses = (refl, refl);
      more = (said answer).text;
      cost = cost;
      makes = ends_by first c.args.self.now c.finish.new.self bytes made spent (spent + cost) answer c.why-self.result makes c.in-Ok.ensures c.answer-answer.ensures c.why-self.ensures;
      breaks = c.in-Err-put_answer.ensures.err;
      steps = omega arith;
    }

pub returns-in-Ok-put_answer : goal.returns-in-Ok-put_answer
returns-in-Ok-put_answer g c = λ first bytes made spent makes.
    let answer = c.answer-answer.result in
    let cost = c.answer-answer.new.steps in
    record {
      more = (said answer).text;
      cost = cost;
      makes = subst (λ f. MakesBy first (bytes ++ []) (made ++ (said answer).text) (spent + cost) (finished f) (record { question = c.args.self.now.question; widths = c.args.self.now.widths; bound = c.args.self.now.bound; reader = c.finish.new.self; unfit = c.why-self.result })) (sym c.is_some.ensures)
          (ends_by first c.args.self.now c.finish.new.self bytes made spent (spent + cost) answer c.why-self.result makes c.in-Ok.ensures c.answer-answer.ensures c.why-self.ensures);
      puts = c.in-Ok-put_answer.ensures.ok;
      steps = omega arith;
    }
