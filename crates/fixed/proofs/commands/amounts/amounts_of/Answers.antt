use Rattle.std.proofs.Common.{ℕ, refl, subst}
use Rattle.command_line.specs.Words.{keyword_at}
use Rattle.fixed.specs.Amounts.{IsNoTarget}
use Rattle.fixed.specs.Columns.{table_in}
use Rattle.fixed.proofs.commands.amounts.amounts_of.Goals as goal

pub returns-in-Err-clause-refused : goal.returns-in-Err-clause-refused
returns-in-Err-clause-refused c list job files asked = c.in-Err.ensures.refused asked.conversion.rule asked.settings

pub returns-in-Ok-table_of-clause-value : goal.returns-in-Ok-table_of-clause-value
returns-in-Ok-table_of-clause-value c =
    let table = c.in-Ok-table_of.table in
    let is = c.in-Ok-table_of.ensures.value in
    record {
      target = subst (λ (n : ℕ). IsNoTarget (keyword_at c.args.given.now n)) c.saturating_add-files.ensures c.in_ok-refuse_target.ensures.value;
      conversion = record { rule = c.in-Ok.rule; form = table.form; skipped = table.skipped; columns = c.args.columns; destination = table.destination; has_header = table.has_header; is_kept = table.is_kept; delimiter = table.delimiter };
      settings = c.in-Ok.ensures.value;
      columns_are = refl;
      table = record { form = is.form; skipped = is.skipped; destination = is.destination; header = is.header; kept = is.kept; delimiter = is.delimiter };
      job_is = refl;
      files_is = c.saturating_add-files.ensures;
    }

pub returns-in-Err-table_of-clause-refused : goal.returns-in-Err-table_of-clause-refused
returns-in-Err-table_of-clause-refused c list job files asked = c.in-Err-table_of.ensures.refused (table_in asked.conversion) asked.table
