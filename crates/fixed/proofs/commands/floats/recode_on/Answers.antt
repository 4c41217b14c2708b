use Rattle.std.proofs.Common.{ap, refl, sym}
use Rattle.command_line.specs.Device.{written_to}
use Rattle.fixed.proofs.commands.floats.recode_on.Goals as goal

pub returns : goal.returns
returns g c = record {
  before = _;
  after = _;
  runs = record { first = _; last = _; left_over = _; end = _; run = c.run_recode-end.ensures; status_is = c.status_of-status.ensures };
  input = rw c.new-source.ensures.reader refl;
  from = rw c.new-sink.ensures.writer (ap (written_to g.S.Write.contents g.F.Write.contents) c.replace-writer.ensures.value);
  to = ap (λ w. written_to g.S.Write.contents g.F.Write.contents w.writer.writer) (sym c.into_writer.ensures);
  no_read_failed = c.new-source.ensures.failures;
  no_write_failed = c.new-sink.ensures.failures;
}
