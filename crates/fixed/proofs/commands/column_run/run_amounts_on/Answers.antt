use Rattle.std.proofs.Common.{◌∙◌, ap}
use Rattle.fixed.specs.Columns.{columns_status}
use Rattle.fixed.proofs.RunLemmas.{fields_with_point}
use Rattle.fixed.proofs.commands.column_run.run_amounts_on.Goals as goal

pub returns : goal.returns
returns g c =
    let ran = c.run_fields-ended.ensures in
    let exceeded = c.run_fields-ended.result.is_exceeded in
    (ran.0, exceeded, c.report.ensures ∙ ap (columns_status exceeded) ran.1, fields_with_point c.has_amount_point-is_decimal.ensures ran.2)
