use Rattle.std.proofs.Common.{ℕ, Option, ap, refl, subst}
use Rattle.command_line.specs.Words.{keyword_at}
use Rattle.fixed_command.specs.declared.column.ColumnConversion.{ColumnConversion}
use Rattle.fixed_command.specs.declared.convert.Settings.{Settings}
use Rattle.fixed.specs.Amounts.{NamesNoDecimal}
use Rattle.fixed.specs.Columns.{table_in}
use Rattle.fixed.specs.declared.inputs.Job.TheVariants as job
use Rattle.fixed.specs.declared.reports.ReportForm.{ReportForm}
use Rattle.fixed.proofs.commands.column.binary_of.Goals as goal

pub returns-in-Ok-table_of-clause-value : goal.returns-in-Ok-table_of-clause-value
returns-in-Ok-table_of-clause-value c =
    let table = c.in-Ok-table_of.table in
    let is = c.in-Ok-table_of.ensures.value in
    let asked : ColumnConversion Settings = record { rule = c.in-Ok.found.0; form = table.form; skipped = table.skipped; columns = c.args.columns; destination = table.destination; has_header = table.has_header; is_kept = table.is_kept; delimiter = table.delimiter } in
    record {
      target = subst (λ (n : ℕ). NamesNoDecimal (keyword_at c.args.given.now n)) c.saturating_add.ensures c.in_ok-refuse_decimal_target.ensures.value;
      conversion = asked;
      settings = c.in-Ok.ensures.value;
      columns_are = refl;
      table = record { form = is.form; skipped = is.skipped; destination = is.destination; header = is.header; kept = is.kept; delimiter = is.delimiter };
      job_is = ap (λ (form : Option ReportForm). job.Column asked form) c.report_asked-report.ensures;
    }

pub returns-in-Err-table_of-clause-refused : goal.returns-in-Err-table_of-clause-refused
returns-in-Err-table_of-clause-refused c list job files asked = c.in-Err-table_of.ensures.refused (table_in asked.conversion) asked.table
