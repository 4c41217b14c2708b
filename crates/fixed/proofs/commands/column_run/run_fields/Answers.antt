use Rattle.std.proofs.Common.{◌≡◌, ◌&&◌, ap, refl, subst, sym}
use Rattle.command_line.specs.Device.{written_to}
use Rattle.fixed.specs.Columns.{stopped_if}
use Rattle.fixed.proofs.RunLemmas.{fields_between}
use Rattle.fixed.proofs.commands.column_run.run_fields.Goals as goal

pub returns : goal.returns
returns g c = (
  c.convert_fields-records.result.end,
  subst (λ f. c.end_columns.result ≡ stopped_if (f && c.end_columns.new.self.rejects.has_failed) c.convert_fields-records.result.end) c.take.ensures.file c.end_columns.ensures,
  fields_between _ _ c.convert_fields-records.ensures.run c.convert_fields-records.ensures.failures
      (λ lacks. let m = c.convert_fields-records.ensures.memory lacks in (rw m.0 refl, rw m.1 refl))
      (rw c.new-source.ensures.reader c.new-limited.ensures.bytes)
      (rw c.new-sink.ensures.writer (ap (written_to g.S.Write.contents g.F.Write.contents) c.replace-writer.ensures.value))
      (ap (λ w. written_to g.S.Write.contents g.F.Write.contents w.writer.writer) (sym c.into_writer.ensures))
      c.new-source.ensures.failures c.new-sink.ensures.failures,
)
