use Rattle.std.proofs.Common.{◌≡◌, ◌&&◌, ap, refl, subst, sym}
use Rattle.command_line.specs.Device.{left_after_mark, written_to}
use Rattle.fixed.specs.Inputs.{end_of}
use Rattle.fixed.proofs.RunLemmas.{ran_or_not}
use Rattle.fixed.proofs.commands.json.run_rule.Goals as goal

pub returns : goal.returns
returns g c = (
  c.run_json-end.result.status,
  subst (λ f. c.end_with.result ≡ end_of (f && c.end_with.new.self.rejects.has_failed) c.run_json-end.result.status) c.take.ensures.file c.end_with.ensures,
  record {
    before = _;
    after = _;
    runs = record {
      task = _;
      is_task = record { rule_is = refl; path = c.deref.ensures.value; form = c.json_form.ensures };
      written = _;
      failures = _;
      watch = _;
      goes_on = c.take.ensures.value;
      last = _;
      run = ran_or_not c.run_json-end.ensures (λ s. left_after_mark g.R.Read.remaining s.reader)
          (λ k. written_to g.S.Write.contents g.F.Write.contents k.writer.writer.writer);
    };
    input = rw c.new-source.ensures.reader c.new.ensures;
    from = rw c.new-sink.ensures.writer (ap (written_to g.S.Write.contents g.F.Write.contents) c.replace-writer.ensures.value);
    to = ap (λ w. written_to g.S.Write.contents g.F.Write.contents w.writer.writer) (sym c.into_writer.ensures);
    no_read_failed = c.new-source.ensures.failures;
    no_write_failed = c.new-sink.ensures.failures;
  },
)
