use Rattle.std.proofs.Common.{◌≡◌, Option, subst, sym}
use Rattle.std.specs.Prelude.{IfSome}
use Rattle.column_engine.specs.Gathered.{IsFieldAt, only}
use Rattle.column_engine.specs.Rows.{raw_fields}
use Rattle.column_engine.specs.Seen.{OnlySaw, SeesFields, place_in}
use Rattle.column_engine.specs.declared.fields.Field.{Field}
use Rattle.column_engine.specs.declared.place.Place.TheVariants.{Start}
use Rattle.column_engine.proofs.SeenLemmas.{on_ok_all}
use Rattle.column_engine.proofs.record.fill_record.Goals as goal

pub returns-in-Some-clause-saw : goal.returns-in-Some-clause-saw
returns-in-Some-clause-saw g c =
    let raws = raw_fields c.args.task.now.delimiter Start c.args.body.now in
    let r = c.args.work.now.records in
    let z = c.answer_field.new.work.records in
    let d = c.args.task.now.delimiter in
    let body = c.args.body.now in
    let one = subst (λ (o : Option Field). IfSome o (λ field. (c.args.asked.now ≡ only field.column) × IsFieldAt d body field.column field.start field.end)) c.in-Some.is c.requires.one in
    on_ok_all c.answer_field.result _ (subst (λ l. OnlySaw (SeesFields (g.A.FieldRule.Answers c.args.task.now.rule.now) (g.W.FieldWatch.Saw c.args.task.now.rule.now) l (place_in r) 0 raws) r z)
    (sym one.0) c.answer_field.ensures.saw)
