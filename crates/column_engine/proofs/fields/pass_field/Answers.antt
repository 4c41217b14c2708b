use Rattle.std.proofs.Common.{◌-◌, false, drop, take, refl, sym, ◌∙◌}
use Rattle.column_engine.specs.Answers.{is_asked}
use Rattle.column_engine.proofs.FieldsLemmas.{pass_asked, pass_part, pass_unasked}
use Rattle.column_engine.specs.Seen.{place_in}
use Rattle.column_engine.proofs.SeenLemmas.{sees_asked, sees_unasked}
use Rattle.column_engine.proofs.fields.pass_field.Goals as goal

pub returns-then-not-is_asked-clause-ok : goal.returns-then-not-is_asked-clause-ok
returns-then-not-is_asked-clause-ok g c = (
  false,
  refl,
  pass_unasked (g.A.FieldRule.Answers c.args.task.now.rule.now) c.args.task.now.keeps c.args.task.now.delimiter (is_asked c.args.asked.now c.args.field.column) c.args.work.now.out c.args.body.now
      c.args.from c.args.field.start c.args.field.end (g.K.Sink.written c.args.sink.now) (sym c.is_asked.ensures ∙ c.if-not-is_asked.true) c.requires.before c.requires.ordered,
)

pub returns-in-Err-clause-err : goal.returns-in-Err-clause-err
returns-in-Err-clause-err g c =
    let part = c.in-Err.ensures.err in (
      part.0,
      part.1,
      pass_part (g.A.FieldRule.Answers c.args.task.now.rule.now) c.args.task.now.keeps c.args.task.now.delimiter (is_asked c.args.asked.now c.args.field.column) part.0 c.args.work.now.out part.1 c.args.body.now
          (take (c.args.field.end - c.args.field.start) (drop c.args.field.start c.args.body.now)) c.args.from c.args.field.start
          (g.K.Sink.written c.args.sink.now) (g.K.Sink.written c.gather_answer.new.sink) (sym c.is_asked.ensures ∙ c.if-not-is_asked.false) part.2,
    )

pub returns-in-Ok-clause-ok : goal.returns-in-Ok-clause-ok
returns-in-Ok-clause-ok g c = (
  c.in-Ok.is_refused,
  c.as_count.ensures.value,
  pass_asked (g.A.FieldRule.Answers c.args.task.now.rule.now) c.args.task.now.keeps c.args.task.now.delimiter (is_asked c.args.asked.now c.args.field.column) c.in-Ok.is_refused c.args.work.now.out c.gather_answer.new.work.out
      c.args.body.now (take (c.args.field.end - c.args.field.start) (drop c.args.field.start c.args.body.now)) c.args.from c.args.field.start c.args.field.end
      (g.K.Sink.written c.args.sink.now) (g.K.Sink.written c.gather_answer.new.sink) (sym c.is_asked.ensures ∙ c.if-not-is_asked.false) c.in-Ok.ensures.ok,
)

pub returns-then-not-is_asked-clause-saw : goal.returns-then-not-is_asked-clause-saw
returns-then-not-is_asked-clause-saw g c =
    let f = c.args.field in
    let r = c.args.work.now.records in
    sees_unasked (g.A.FieldRule.Answers c.args.task.now.rule.now) (g.W.FieldWatch.Saw c.args.task.now.rule.now) (is_asked c.args.asked.now f.column) (place_in r f.column)
    (take (f.end - f.start) (drop f.start c.args.body.now)) r (sym c.is_asked.ensures ∙ c.if-not-is_asked.true)

pub returns-in-Err-clause-saw : goal.returns-in-Err-clause-saw
returns-in-Err-clause-saw g c =
    let f = c.args.field in
    let r = c.args.work.now.records in
    sees_asked (g.A.FieldRule.Answers c.args.task.now.rule.now) (g.W.FieldWatch.Saw c.args.task.now.rule.now) (is_asked c.args.asked.now f.column) (place_in r f.column)
    (take (f.end - f.start) (drop f.start c.args.body.now)) r c.gather_answer.new.work.records (sym c.is_asked.ensures ∙ c.if-not-is_asked.false) c.in-Err.ensures.saw

pub returns-in-Ok-clause-saw : goal.returns-in-Ok-clause-saw
returns-in-Ok-clause-saw g c =
    let f = c.args.field in
    let r = c.args.work.now.records in
    sees_asked (g.A.FieldRule.Answers c.args.task.now.rule.now) (g.W.FieldWatch.Saw c.args.task.now.rule.now) (is_asked c.args.asked.now f.column) (place_in r f.column)
    (take (f.end - f.start) (drop f.start c.args.body.now)) r c.gather_answer.new.work.records (sym c.is_asked.ensures ∙ c.if-not-is_asked.false) c.in-Ok.ensures.saw
