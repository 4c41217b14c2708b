use Rattle.std.proofs.Common.{ap, refl, sym}
use Rattle.command_line.specs.Device.{written_to}
use Rattle.fixed.proofs.commands.amounts.run_on.Goals as goal

pub returns : goal.returns
returns g c = (
  c.run_amounts-end.result.status,
  c.end-status.ensures,
  record {
    before = _;
    after = _;
    runs = record {
      run = λ some. (_, c.run_amounts-end.ensures.run some);
      memory = λ lacks. let m = c.run_amounts-end.ensures.memory lacks in rw m.0 (rw m.1 (rw m.2 refl));
    };
    input = rw c.new-source.ensures.reader c.new.ensures;
    from = rw c.new-sink.ensures.writer (ap (written_to g.S.Write.contents g.F.Write.contents) c.replace-writer.ensures.value);
    to = ap (λ w. written_to g.S.Write.contents g.F.Write.contents w.writer.writer) (sym c.into_writer.ensures);
    no_read_failed = c.new-source.ensures.failures;
    no_write_failed = c.new-sink.ensures.failures;
  },
)
