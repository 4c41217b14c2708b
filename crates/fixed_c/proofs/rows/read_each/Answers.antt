use Rattle.fixed_c.specs.Numbers.{format_of}
use Rattle.fixed_c.specs.Inner.Asked.{ReadsAskedRow, RefusesRow}
use Rattle.fixed_c.specs.Rows.{ReadsRow}
use Rattle.fixed_c.proofs.AskedLemmas.{row_asked, row_refused, rows_as}
use Rattle.fixed_c.proofs.rows.read_each.Goals as goal

pub returns-in-Ok : goal.returns-in-Ok
returns-in-Ok c =
    let f = format_of c.args.reading.format.is_signed c.args.reading.format.width c.args.reading.format.frac in
    rows_as (ReadsAskedRow c.args.rows.now c.args.size c.in-Ok.asked) (ReadsRow c.args.rows.now c.args.size c.args.reading.radix f c.args.reading.policy c.args.reading.mode) c.read_asked.new.out c.read_asked.new.codes c.read_asked.result
    (row_asked c.args.rows.now c.args.size c.args.reading.radix f c.args.reading.policy c.args.reading.mode c.in-Ok.asked c.in-Ok.ensures) c.read_asked.ensures

pub returns-in-Err : goal.returns-in-Err
returns-in-Err c =
    let f = format_of c.args.reading.format.is_signed c.args.reading.format.width c.args.reading.format.frac in
    rows_as (RefusesRow c.in-Err.refusal) (ReadsRow c.args.rows.now c.args.size c.args.reading.radix f c.args.reading.policy c.args.reading.mode) c.refuse_each.new.out c.refuse_each.new.codes c.refuse_each.result
    (row_refused c.args.rows.now c.args.size c.args.reading.radix f c.args.reading.policy c.args.reading.mode c.in-Err.refusal c.in-Err.ensures) c.refuse_each.ensures
