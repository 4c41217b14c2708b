use Rattle.std.proofs.Common.{◌++◌, [], ◌∷◌, ◌∙◌, ap, get_or, subst, sym, true}
use Rattle.line_engine.specs.Inner.Progress.{Flushes}
use Rattle.column_engine.specs.Rows.{raw_fields}
use Rattle.column_engine.specs.declared.place.Place.TheVariants.{Start}
use Rattle.column_engine.specs.Answers.{IsAnswer, first_asked}
use Rattle.column_engine.proofs.SeenLemmas.{sees_at}
use Rattle.column_engine.proofs.record.lengthen_record.Goals as goal

pub returns-in-Err-clause-err : goal.returns-in-Err-clause-err
returns-in-Err-clause-err g c =
    let A = g.A.FieldRule.Answers c.args.task.now.rule.now in
    let keeps = c.args.task.now.keeps in
    let d = c.args.task.now.delimiter in
    let body = c.args.body.now in
    let refused = c.answer_asked-answered.result.is_refused in
    let text = c.bytes-shown.result.now in
    let part = c.in-Err.ensures.err in
    let field = c.field_in-raw.ensures.value ∙ ap (λ k. get_or (raw_fields d Start body) k []) c.first_asked-column.ensures in
    let answer = subst (λ t. IsAnswer A keeps d true c.field_in-raw.result.now (record { text = t; refused = refused })) (sym c.bytes-shown.ensures) c.answer_asked-answered.ensures.answer in (
      refused,
      part.0,
      record {
        text = text;
        answer = subst (λ f. IsAnswer A keeps d true f (record { text = text; refused = refused })) field answer;
        gathered = subst (λ h. Flushes h (body ++ d ∷ text ++ c.args.end.now) part.0 (g.K.Sink.written c.args.sink.now) (g.K.Sink.written c.put_longer.new.sink))
            c.answer_asked-answered.ensures.out part.1;
      },
    )

pub returns-in-Err-clause-saw : goal.returns-in-Err-clause-saw
returns-in-Err-clause-saw g c =
    let raws = raw_fields c.args.task.now.delimiter Start c.args.body.now in
    sees_at (g.A.FieldRule.Answers c.args.task.now.rule.now) (g.W.FieldWatch.Saw c.args.task.now.rule.now) c.first_asked-column.result (first_asked c.args.asked.now)
    c.field_in-raw.result.now (get_or raws (first_asked c.args.asked.now) []) c.args.work.now.records c.answer_asked-answered.new.work.records c.first_asked-column.ensures
    (c.field_in-raw.ensures.value ∙ ap (λ k. get_or raws k []) c.first_asked-column.ensures) c.answer_asked-answered.ensures.saw

pub returns-in-Ok-clause-saw : goal.returns-in-Ok-clause-saw
returns-in-Ok-clause-saw g c =
    let raws = raw_fields c.args.task.now.delimiter Start c.args.body.now in
    sees_at (g.A.FieldRule.Answers c.args.task.now.rule.now) (g.W.FieldWatch.Saw c.args.task.now.rule.now) c.first_asked-column.result (first_asked c.args.asked.now)
    c.field_in-raw.result.now (get_or raws (first_asked c.args.asked.now) []) c.args.work.now.records c.answer_asked-answered.new.work.records c.first_asked-column.ensures
    (c.field_in-raw.ensures.value ∙ ap (λ k. get_or raws k []) c.first_asked-column.ensures) c.answer_asked-answered.ensures.saw
