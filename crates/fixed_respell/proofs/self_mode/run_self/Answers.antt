use Rattle.std.proofs.Common.{◌∙◌, subst}
use Rattle.std.specs.Io.KnownBytes.{Appends}
use Rattle.line_engine.specs.Output.{AppendsPrefix}
use Rattle.fixed_respell.specs.SelfMode.{summary_text}
use Rattle.fixed_respell.proofs.SelfLemmas.{is_summary}
use Rattle.fixed_respell.proofs.self_mode.run_self.Goals as goal

pub returns-in-Err-clause-run : goal.returns-in-Err-clause-run
returns-in-Err-clause-run g c =
    let tally = c.count_answers-counts.result in
    record {
      text = summary_text c.args.count tally;
      faults = tally.faults;
      summary = is_summary c.args.count tally c.count_answers-counts.ensures.tally;
      output = subst (AppendsPrefix (g.K.Sink.written c.args.sink.now) (g.K.Sink.written c.write_whole.new.sink)) (c.as_slice.ensures.value ∙ c.summary.ensures) c.in-Err.ensures.err;
      rose = c.in-Err.ensures.failures.failed;
    }

-- the summary is written whole
pub returns-in-Ok-clause-run : goal.returns-in-Ok-clause-run
returns-in-Ok-clause-run g c =
    let tally = c.count_answers-counts.result in (
      tally.faults,
      c.has_fault.ensures.0 c.if-has_fault.true,
      record {
        text = summary_text c.args.count tally;
        summary = is_summary c.args.count tally c.count_answers-counts.ensures.tally;
        output = subst (Appends (g.K.Sink.written c.args.sink.now) (g.K.Sink.written c.write_whole.new.sink)) (c.as_slice.ensures.value ∙ c.summary.ensures) c.in-Ok.ensures.ok;
        calm = c.in-Ok.ensures.failures.same;
      },
    )
