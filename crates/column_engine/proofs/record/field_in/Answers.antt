use Rattle.std.proofs.Common.{arith, ◌∙◌, sym, ap, get_or, []}
use Rattle.column_engine.specs.Rows.{raw_fields}
use Rattle.column_engine.specs.declared.place.Place.TheVariants.{Start}
use Rattle.column_engine.proofs.FieldsLemmas.{field_got, none_got}
use Rattle.column_engine.proofs.record.field_in.Goals as goal

pub returns-in-Ok-clause-value : goal.returns-in-Ok-clause-value
returns-in-Ok-clause-value c =
    let raws = raw_fields c.args.delimiter Start c.args.body.now in
    let at = c.in-Ok.ensures.ok.1 in
    field_got raws at.some at.more _ c.in-Ok.field.column at.cut at.column_is ∙ ap (λ k. get_or raws k []) c.in-Ok.ensures.ok.0

pub returns-in-Err-clause-value : goal.returns-in-Err-clause-value
returns-in-Err-clause-value c =
    sym (none_got (raw_fields c.args.delimiter Start c.args.body.now) c.args.column (omega (arith, c.in-Err.ensures.err.0, c.in-Err.ensures.err.1)))
