use Rattle.std.proofs.Common.{◌-◌, FitsSigned, List, drop, length, rules, take}
use Rattle.std.specs.Int.{w128}
use Rattle.std.proofs.lemmas.Int.{to_z-of_z}
use Rattle.std.proofs.lemmas.Result.{on_ok_weaker}
use Rattle.fixed_fields.specs.declared.list.Field.{Field}
use Rattle.fixed_fields.proofs.AnswerLemmas.{fields_appended, fields_are}
use Rattle.fixed_fields.proofs.answer.+push_fields.Goals as goal

pub returns-in-Ok-clause-ok : goal.returns-in-Ok-clause-ok
returns-in-Ok-clause-ok g t c =
    let more : List Field = take (length c.args.fields.now - 1) (drop 1 c.args.fields.now) in
    let fits : FitsSigned w128 c.in-Ok.bits = search rules in
    let pushed = rw (to_z-of_z w128 c.in-Ok.bits fits) at c.push_field.ensures.appended in
    let number = rw c.part_of-part.ensures at c.in-Ok.ensures.part in
    on_ok_weaker c.push_fields.result
    (fields_appended c.args.form c.args.question.now c.args.fields.now c.field-item.result more c.args.word.now c.args.out.now c.push_field.new.out c.push_between.new.out
    c.push_fields.new.out c.in-Ok.bits (fields_are c.args.fields.now c.field-item.result c.in-len1-up.len_at_least c.field-item.is) c.check_format.ensures number
    pushed c.push_field.ensures.short c.push_between.ensures.appended c.push_between.ensures.short)
    c.push_fields.ensures.ok
