use Rattle.std.proofs.Common.{ap, refl, sym}
use Rattle.command_line.specs.Device.{written_to}
use Rattle.fixed.proofs.inputs.run_words_on.Goals as goal

pub returns : goal.returns
returns g c = (
  c.convert_words-end.result.status,
  c.end-status.ensures,
  record {
    before = _;
    after = _;
    runs = record {
      run = λ some. let ran = c.convert_words-end.ensures.run some in (c.is_some.result, ran.0, ran.1, _, _, _, ran.2);
      memory = λ lacks. let m = c.convert_words-end.ensures.memory lacks in rw m.0 (rw m.1 (rw m.3 refl));
    };
    input = rw c.new-source.ensures.reader c.new.ensures;
    from = rw c.new-sink.ensures.writer (ap (written_to g.S.Write.contents g.F.Write.contents) c.replace-writer.ensures.value);
    to = ap (λ w. written_to g.S.Write.contents g.F.Write.contents w.writer.writer) (sym c.into_writer.ensures);
    no_read_failed = c.new-source.ensures.failures;
    no_write_failed = c.new-sink.ensures.failures;
  },
)
