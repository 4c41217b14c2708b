use Rattle.fixed_c.specs.Inner.Asked.{RefusesRow}
use Rattle.fixed_c.specs.Inner.Decimals.{ReadsDecimalAsked}
use Rattle.fixed_c.specs.Decimals.{ReadsDecimalRow}
use Rattle.fixed_c.proofs.AskedLemmas.{rows_as}
use Rattle.fixed_c.proofs.MoneyLemmas.{decimal_row_asked, decimal_row_refused}
use Rattle.fixed_c.proofs.decimal_rows.each_decimal.Goals as goal

pub returns-in-Ok : goal.returns-in-Ok
returns-in-Ok c =
    rows_as (ReadsDecimalAsked c.args.rows.now c.args.size c.in-Ok.asked) (ReadsDecimalRow c.args.rows.now c.args.size c.args.reading.places c.args.reading.policy c.args.reading.mode) c.asked_decimals.new.out c.asked_decimals.new.codes c.asked_decimals.result
    (decimal_row_asked c.args.rows.now c.args.size c.args.reading.places c.args.reading.policy c.args.reading.mode c.in-Ok.asked c.in-Ok.ensures) c.asked_decimals.ensures

pub returns-in-Err : goal.returns-in-Err
returns-in-Err c =
    rows_as (RefusesRow c.in-Err.refusal) (ReadsDecimalRow c.args.rows.now c.args.size c.args.reading.places c.args.reading.policy c.args.reading.mode) c.refuse_each.new.out c.refuse_each.new.codes c.refuse_each.result
    (decimal_row_refused c.args.rows.now c.args.size c.args.reading.places c.args.reading.policy c.args.reading.mode c.in-Err.refusal c.in-Err.ensures) c.refuse_each.ensures
