use Rattle.std.proofs.Common.{◌++◌, true, sym, subst}
use Rattle.line_engine.specs.Inner.Progress.{Flushes}
use Rattle.column_engine.specs.Answers.{IsAnswer}
use Rattle.column_engine.specs.Gathered.{shown_bytes}
use Rattle.column_engine.proofs.GatherLemmas.{flushes_both, flushes_more, on_err}
use Rattle.column_engine.proofs.fields.gather_answer.Goals as goal

pub returns-in_err-put-clause-err : goal.returns-in_err-put-clause-err
returns-in_err-put-clause-err g c =
    let answered = c.answer_asked-answered.result in
    let text = shown_bytes answered.shown c.args.raw.now c.answer_asked-answered.new.work.reply c.answer_asked-answered.new.work.text in
    let part = c.in_err-put.ensures.err in
    let a = g.K.Sink.written c.args.sink.now in
    let b = g.K.Sink.written c.put.new.sink in
    let first = subst (λ h. Flushes h c.args.before.now part.0 a b) c.answer_asked-answered.ensures.out part.1 in
    on_err c.from_residual.result (
      answered.is_refused,
      part.0 ++ text,
      record {
        text = text;
        answer = c.answer_asked-answered.ensures.answer;
        gathered = flushes_more c.args.work.now.out c.args.before.now part.0 text a b first;
      },
    )

pub returns-in_err-put-2-clause-err : goal.returns-in_err-put-2-clause-err
returns-in_err-put-2-clause-err g c =
    let A = g.A.FieldRule.Answers c.args.task.now.rule.now in
    let part = c.in_err-put-2.ensures.err in
    let a = g.K.Sink.written c.args.sink.now in
    let b = g.K.Sink.written c.put.new.sink in
    let z = g.K.Sink.written c.put-2.new.sink in
    let refused = c.answer_asked-answered.result.is_refused in
    let first = subst (λ h. Flushes h c.args.before.now c.put.new.out a b) c.answer_asked-answered.ensures.out c.in_ok-put.ensures.ok in
    on_err c.from_residual-in_err-put-2.result (
      refused,
      part.0,
      record {
        text = c.bytes-shown.result.now;
        answer = subst (λ t. IsAnswer A c.args.task.now.keeps c.args.task.now.delimiter true c.args.raw.now (record { text = t; refused = refused })) (sym c.bytes-shown.ensures) c.answer_asked-answered.ensures.answer;
        gathered = flushes_both c.args.work.now.out c.args.before.now c.bytes-shown.result.now c.put.new.out part.0 a b z first part.1;
      },
    )

pub returns-clause-ok : goal.returns-clause-ok
returns-clause-ok g c =
    let A = g.A.FieldRule.Answers c.args.task.now.rule.now in
    let a = g.K.Sink.written c.args.sink.now in
    let b = g.K.Sink.written c.put.new.sink in
    let z = g.K.Sink.written c.put-2.new.sink in
    let refused = c.answer_asked-answered.result.is_refused in
    let first = subst (λ h. Flushes h c.args.before.now c.put.new.out a b) c.answer_asked-answered.ensures.out c.in_ok-put.ensures.ok in
    record {
      text = c.bytes-shown.result.now;
      answer = subst (λ t. IsAnswer A c.args.task.now.keeps c.args.task.now.delimiter true c.args.raw.now (record { text = t; refused = refused })) (sym c.bytes-shown.ensures) c.answer_asked-answered.ensures.answer;
      gathered = flushes_both c.args.work.now.out c.args.before.now c.bytes-shown.result.now c.put.new.out c.put-2.new.out a b z first c.in_ok-put-2.ensures.ok;
    }
