use Rattle.fixed_float.specs.declared.layout.FloatLayout.TheVariants.{Binary32}
use Rattle.fixed_c.specs.Floats.{ReadsFloatRow}
use Rattle.fixed_c.specs.Numbers.{format_of}
use Rattle.fixed_c.specs.Inner.Asked.{RefusesRow}
use Rattle.fixed_c.specs.Inner.Floats.{ReadsFloatAsked}
use Rattle.fixed_c.proofs.AskedLemmas.{rows_as}
use Rattle.fixed_c.proofs.FloatLemmas.{float_row_asked, float_row_refused}
use Rattle.fixed_c.proofs.float_rows.each_float.Goals as goal

pub returns-in-Ok : goal.returns-in-Ok
returns-in-Ok c =
    let f = format_of c.args.reading.format.is_signed c.args.reading.format.width c.args.reading.format.frac in
    rows_as (ReadsFloatAsked Binary32 c.args.floats.now c.in-Ok.asked) (ReadsFloatRow Binary32 c.args.floats.now f c.args.reading.policy c.args.reading.mode) c.asked_floats.new.out c.asked_floats.new.codes c.asked_floats.result
    (float_row_asked Binary32 c.args.floats.now f c.args.reading.policy c.args.reading.mode c.in-Ok.asked c.in-Ok.ensures) c.asked_floats.ensures

pub returns-in-Err : goal.returns-in-Err
returns-in-Err c =
    let f = format_of c.args.reading.format.is_signed c.args.reading.format.width c.args.reading.format.frac in
    rows_as (RefusesRow c.in-Err.refusal) (ReadsFloatRow Binary32 c.args.floats.now f c.args.reading.policy c.args.reading.mode) c.refuse_each.new.out c.refuse_each.new.codes c.refuse_each.result
    (float_row_refused Binary32 c.args.floats.now f c.args.reading.policy c.args.reading.mode c.in-Err.refusal c.in-Err.ensures) c.refuse_each.ensures
