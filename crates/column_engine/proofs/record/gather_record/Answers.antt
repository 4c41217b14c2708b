use Rattle.std.proofs.Common.{◌≡◌, ℕ, List, Bool, ap, subst, if◌then◌else◌}
use Rattle.std.proofs.lemmas.Result.{on_err_weaker}
use Rattle.column_engine.specs.Answers.{name_of, one_more}
use Rattle.column_engine.specs.Gathered.{GathersFields, GathersLonger}
use Rattle.column_engine.specs.Rows.{raw_fields}
use Rattle.column_engine.specs.Steps.{PassesRow, state_of}
use Rattle.column_engine.specs.declared.place.Place.TheVariants.{Start}
use Rattle.column_engine.proofs.FeedLemmas.{fails_fields, fails_longer, passes_fields, passes_longer}
use Rattle.column_engine.proofs.GatherLemmas.{if_ok}
use Rattle.column_engine.proofs.SeenLemmas.{on_ok_all, sees_in_place, sees_new}
use Rattle.column_engine.proofs.record.gather_record.Goals as goal

pub returns-in-NewColumn-clause-ok : goal.returns-in-NewColumn-clause-ok
returns-in-NewColumn-clause-ok g c =
    let A = g.A.FieldRule.Answers c.args.task.now.rule.now in
    let keeps = c.args.task.now.keeps in
    let d = c.args.task.now.delimiter in
    let columns = c.args.task.now.columns.now in
    let s = state_of c.args.progress.now in
    let held = c.args.work.now.out in
    let new = c.lengthen_record.new.work.out in
    let a = g.K.Sink.written c.args.sink.now in
    let b = g.K.Sink.written c.lengthen_record.new.sink in
    if_ok c.lengthen_record.result
    (λ (count : ℕ). (refused : Bool) × (count ≡ (if refused then 1 else 0)) × GathersLonger A keeps d c.deref.result.now (record { body = c.args.body.now; end = c.args.end.now }) refused held new a b)
    (λ (count : ℕ). PassesRow A keeps d columns (record { body = c.args.body.now; end = c.args.end.now }) s (one_more s count) held new a b)
    (λ count one. passes_longer A keeps d columns s c.in-NewColumn.field-0 (record { body = c.args.body.now; end = c.args.end.now }) count held new a b
    c.requires.short c.requires.known (ap name_of c.in-NewColumn.is) c.requires.some c.requires.enough
    (one.0, one.1, subst (λ l. GathersLonger A keeps d l (record { body = c.args.body.now; end = c.args.end.now }) one.0 held new a b) c.deref.ensures.value one.2))
    c.lengthen_record.ensures.ok

pub returns-in-NewColumn-clause-err : goal.returns-in-NewColumn-clause-err
returns-in-NewColumn-clause-err g c =
    let A = g.A.FieldRule.Answers c.args.task.now.rule.now in
    let keeps = c.args.task.now.keeps in
    let d = c.args.task.now.delimiter in
    let columns = c.args.task.now.columns.now in
    let s = state_of c.args.progress.now in
    let held = c.args.work.now.out in
    let a = g.K.Sink.written c.args.sink.now in
    let b = g.K.Sink.written c.lengthen_record.new.sink in
    on_err_weaker c.lengthen_record.result
    (λ (one : (refused : Bool) × (left : List ℕ) × GathersLonger A keeps d c.deref.result.now (record { body = c.args.body.now; end = c.args.end.now }) refused held left a b).
    fails_longer A keeps d columns s c.in-NewColumn.field-0 (record { body = c.args.body.now; end = c.args.end.now }) held a b
    c.requires.short c.requires.known (ap name_of c.in-NewColumn.is) c.requires.some c.requires.enough
    (one.0, one.1, subst (λ l. GathersLonger A keeps d l (record { body = c.args.body.now; end = c.args.end.now }) one.0 held one.1 a b) c.deref.ensures.value one.2))
    c.lengthen_record.ensures.err

pub returns-in-Err-put_end-clause-err : goal.returns-in-Err-put_end-clause-err
returns-in-Err-put_end-clause-err g c =
    let A = g.A.FieldRule.Answers c.args.task.now.rule.now in
    let keeps = c.args.task.now.keeps in
    let d = c.args.task.now.delimiter in
    let raws = raw_fields d Start c.args.body.now in
    let held = c.args.work.now.out in
    let mid = c.fill_record.new.work.out in
    let a = g.K.Sink.written c.args.sink.now in
    let b = g.K.Sink.written c.fill_record.new.sink in
    fails_fields A keeps d c.args.task.now.columns.now (state_of c.args.progress.now) (record { body = c.args.body.now; end = c.args.end.now }) c.in-Ok.refused held mid
    a b (g.K.Sink.written c.put_end.new.sink) c.requires.short c.requires.known (ap name_of c.in-InPlace.is) c.requires.some c.requires.enough
    (subst (λ l. GathersFields A keeps d l 0 raws c.in-Ok.refused held mid a b) c.deref-in-InPlace.ensures.value c.in-Ok.ensures.ok) c.in-Err-put_end.ensures.err

pub returns-in-Ok-put_end-clause-ok : goal.returns-in-Ok-put_end-clause-ok
returns-in-Ok-put_end-clause-ok g c =
    let A = g.A.FieldRule.Answers c.args.task.now.rule.now in
    let keeps = c.args.task.now.keeps in
    let d = c.args.task.now.delimiter in
    let raws = raw_fields d Start c.args.body.now in
    let held = c.args.work.now.out in
    let mid = c.fill_record.new.work.out in
    let a = g.K.Sink.written c.args.sink.now in
    let b = g.K.Sink.written c.fill_record.new.sink in
    passes_fields A keeps d c.args.task.now.columns.now (state_of c.args.progress.now) (record { body = c.args.body.now; end = c.args.end.now }) c.in-Ok.refused held mid c.put_end.new.out
    a b (g.K.Sink.written c.put_end.new.sink) c.requires.short c.requires.known (ap name_of c.in-InPlace.is) c.requires.some c.requires.enough
    (subst (λ l. GathersFields A keeps d l 0 raws c.in-Ok.refused held mid a b) c.deref-in-InPlace.ensures.value c.in-Ok.ensures.ok) c.in-Ok-put_end.ensures.ok

pub returns-in-NewColumn-clause-saw : goal.returns-in-NewColumn-clause-saw
returns-in-NewColumn-clause-saw g c =
    let raws = raw_fields c.args.task.now.delimiter Start c.args.body.now in
    on_ok_all c.lengthen_record.result _ (sees_new (g.A.FieldRule.Answers c.args.task.now.rule.now) (g.W.FieldWatch.Saw c.args.task.now.rule.now) (name_of c.args.progress.now.destination.now)
    c.in-NewColumn.field-0 c.deref.result.now c.args.progress.now.asked.items raws c.args.work.now.records c.lengthen_record.new.work.records (ap name_of c.in-NewColumn.is) c.deref.ensures.value
    c.lengthen_record.ensures.saw)

pub returns-in-Ok-put_end-clause-saw : goal.returns-in-Ok-put_end-clause-saw
returns-in-Ok-put_end-clause-saw g c =
    let raws = raw_fields c.args.task.now.delimiter Start c.args.body.now in
    sees_in_place (g.A.FieldRule.Answers c.args.task.now.rule.now) (g.W.FieldWatch.Saw c.args.task.now.rule.now) (name_of c.args.progress.now.destination.now)
    c.deref-in-InPlace.result.now c.args.progress.now.asked.items raws c.args.work.now.records c.fill_record.new.work.records (ap name_of c.in-InPlace.is) c.deref-in-InPlace.ensures.value
    c.in-Ok.ensures.saw
