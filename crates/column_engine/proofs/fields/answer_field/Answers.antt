use Rattle.std.proofs.Common.{◌-◌, drop, refl, take, if◌then◌else◌}
use Rattle.std.proofs.lemmas.List.{take_rest}
use Rattle.column_engine.specs.Gathered.{only}
use Rattle.column_engine.specs.Rows.{raw_fields}
use Rattle.column_engine.specs.declared.place.Place.TheVariants.{Start}
use Rattle.column_engine.proofs.FieldsLemmas.{field_cut, field_filled}
use Rattle.column_engine.proofs.GatherLemmas.{part_all}
use Rattle.column_engine.proofs.SeenLemmas.{sees_only}
use Rattle.column_engine.proofs.fields.answer_field.Goals as goal

pub returns-in-Err-clause-err : goal.returns-in-Err-clause-err
returns-in-Err-clause-err g c =
    let f = c.args.field in
    let body = c.args.body.now in
    let part = c.in-Err.ensures.err in
    field_cut (g.A.FieldRule.Answers c.args.task.now.rule.now) c.args.task.now.keeps c.args.task.now.delimiter body _ f.column f.start f.end part.0 c.args.work.now.out part.1
    (g.K.Sink.written c.args.sink.now) (g.K.Sink.written c.gather_answer.new.sink) c.requires.field refl part.2

pub returns-in-Err-put-clause-err : goal.returns-in-Err-put-clause-err
returns-in-Err-put-clause-err g c =
    let A = g.A.FieldRule.Answers c.args.task.now.rule.now in
    let keeps = c.args.task.now.keeps in
    let d = c.args.task.now.delimiter in
    let f = c.args.field in
    let body = c.args.body.now in
    let part = c.in-Err-put.ensures.err in
    let refused = c.in-Ok.is_refused in
    let a = g.K.Sink.written c.args.sink.now in
    let z = g.K.Sink.written c.put.new.sink in
    part_all A keeps d (only f.column) (raw_fields d Start body) (if refused then 1 else 0) c.args.work.now.out part.0 a z
    (field_filled A keeps d body _ _ f.column f.start f.end (if refused then 1 else 0) refused c.args.work.now.out c.gather_answer.new.work.out part.0 a (g.K.Sink.written c.gather_answer.new.sink) z
    c.requires.field refl refl (take_rest body f.end) c.in-Ok.ensures.ok part.1)

pub returns-in-Ok-put-clause-ok : goal.returns-in-Ok-put-clause-ok
returns-in-Ok-put-clause-ok g c =
    let f = c.args.field in
    let body = c.args.body.now in
    field_filled (g.A.FieldRule.Answers c.args.task.now.rule.now) c.args.task.now.keeps c.args.task.now.delimiter body _ _ f.column f.start f.end c.as_count.result c.in-Ok.is_refused
    c.args.work.now.out c.gather_answer.new.work.out c.put.new.out (g.K.Sink.written c.args.sink.now) (g.K.Sink.written c.gather_answer.new.sink) (g.K.Sink.written c.put.new.sink)
    c.requires.field c.as_count.ensures.value refl (take_rest body f.end) c.in-Ok.ensures.ok c.in-Ok-put.ensures.ok

pub returns-in-Err-clause-saw : goal.returns-in-Err-clause-saw
returns-in-Err-clause-saw g c =
    let f = c.args.field in
    sees_only (g.A.FieldRule.Answers c.args.task.now.rule.now) (g.W.FieldWatch.Saw c.args.task.now.rule.now) c.args.task.now.delimiter c.args.body.now
    (take (f.end - f.start) (drop f.start c.args.body.now)) f.column f.start f.end c.args.work.now.records c.gather_answer.new.work.records c.requires.field c.requires.field.cut c.in-Err.ensures.saw

pub returns-in-Err-put-clause-saw : goal.returns-in-Err-put-clause-saw
returns-in-Err-put-clause-saw g c =
    let f = c.args.field in
    sees_only (g.A.FieldRule.Answers c.args.task.now.rule.now) (g.W.FieldWatch.Saw c.args.task.now.rule.now) c.args.task.now.delimiter c.args.body.now
    (take (f.end - f.start) (drop f.start c.args.body.now)) f.column f.start f.end c.args.work.now.records c.gather_answer.new.work.records c.requires.field c.requires.field.cut c.in-Ok.ensures.saw

pub returns-in-Ok-put-clause-saw : goal.returns-in-Ok-put-clause-saw
returns-in-Ok-put-clause-saw g c =
    let f = c.args.field in
    sees_only (g.A.FieldRule.Answers c.args.task.now.rule.now) (g.W.FieldWatch.Saw c.args.task.now.rule.now) c.args.task.now.delimiter c.args.body.now
    (take (f.end - f.start) (drop f.start c.args.body.now)) f.column f.start f.end c.args.work.now.records c.gather_answer.new.work.records c.requires.field c.requires.field.cut c.in-Ok.ensures.saw
