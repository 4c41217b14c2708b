use Rattle.std.proofs.Common.{◌∙◌, ap}
use Rattle.fixed.specs.Columns.{columns_status}
use Rattle.fixed.proofs.RunLemmas.{binary_fields}
use Rattle.fixed.proofs.commands.column_run.run_column_on.Goals as goal

pub returns : goal.returns
returns g c =
    let ran = c.run_fields-ended.ensures in
    let exceeded = c.run_fields-ended.result.is_exceeded in
    (ran.0, exceeded, c.report.ensures ∙ ap (columns_status exceeded) ran.1, binary_fields c.settings-settings.ensures c.has_point-is_decimal.ensures ran.2)
