use Rattle.std.proofs.Common.{[], subst, ◌∙◌}
use Rattle.line_engine.specs.Failures.{HasFailed}
use Rattle.column_engine.specs.Steps.{PassesRow, StopsRow, state_of}
use Rattle.column_engine.proofs.RunLemmas.{is_last, not_both, row_unread, stops_cut, stops_done, stops_last, stops_none}
use Rattle.column_engine.proofs.run.end_text.Goals as goal

pub returns-then-is_empty-clause-ends : goal.returns-then-is_empty-clause-ends
returns-then-is_empty-clause-ends g c = λ left end.
    stops_none (g.A.FieldRule.Answers c.args.task.now.rule.now) c.args.task.now.keeps c.args.task.now.delimiter c.args.task.now.columns.now
    c.args.cutter.now.kept (state_of c.args.cutter.now.progress) left (g.K.Sink.written c.args.sink.now) (c.is_empty.ensures.none.0 c.if-is_empty.true) end

pub returns-in-Err : goal.returns-in-Err
returns-in-Err g c =
    let A = g.A.FieldRule.Answers c.args.task.now.rule.now in
    let keeps = c.args.task.now.keeps in
    let d = c.args.task.now.delimiter in
    let columns = c.args.task.now.columns.now in
    let kept = c.args.cutter.now.kept in
    let s = state_of c.args.cutter.now.progress in
    let held = c.answer_row.new.work.out in
    let a = g.K.Sink.written c.args.sink.now in
    let b = g.K.Sink.written c.answer_row.new.sink in
    let last = is_last A keeps d columns kept c.args.cutter.now.place c.requires.standing (λ e. not_both c.is_empty.result c.if-is_empty.false (c.is_empty.ensures.none.1 e)) c.in_default.not-Quoted in
    record {
      ends = λ left end. stops_last A keeps d columns c.in-Err.stop kept held s (state_of c.answer_row.new.progress) left a b last end c.in-Err.ensures.counts
          (subst (λ l. StopsRow c.in-Err.stop A keeps d columns (record { body = l; end = [] }) s [] held a b) c.as_slice-2.ensures.bytes
          (subst (λ h. StopsRow c.in-Err.stop A keeps d columns (record { body = c.as_slice-2.result.now; end = [] }) s h held a b) c.requires.empty c.in-Err.ensures.err));
      reads = row_unread A keeps d columns c.in-Err.stop (record { body = c.as_slice-2.result.now; end = [] }) s c.args.work.now.out held a b c.in-Err.ensures.err;
      failures = c.in-Err.ensures.failures.stops;
    }

pub returns-in-Err-flush : goal.returns-in-Err-flush
returns-in-Err-flush g c =
    let A = g.A.FieldRule.Answers c.args.task.now.rule.now in
    let keeps = c.args.task.now.keeps in
    let d = c.args.task.now.delimiter in
    let columns = c.args.task.now.columns.now in
    let kept = c.args.cutter.now.kept in
    let s = state_of c.args.cutter.now.progress in
    let u = state_of c.answer_row.new.progress in
    let held = c.answer_row.new.work.out in
    let a = g.K.Sink.written c.args.sink.now in
    let b = g.K.Sink.written c.answer_row.new.sink in
    let last = is_last A keeps d columns kept c.args.cutter.now.place c.requires.standing (λ e. not_both c.is_empty.result c.if-is_empty.false (c.is_empty.ensures.none.1 e)) c.in_default.not-Quoted in
    record {
      ends = λ left end. stops_cut A keeps d columns kept held s u left a b (g.K.Sink.written c.flush.new.sink) last end
          (subst (λ l. PassesRow A keeps d columns (record { body = l; end = [] }) s u [] held a b) c.as_slice-2.ensures.bytes
          (subst (λ h. PassesRow A keeps d columns (record { body = c.as_slice-2.result.now; end = [] }) s u h held a b) c.requires.empty c.in-Ok.ensures.ok)) c.in-Err-flush.ensures.err;
      reads = λ e. cc;
      failures = subst (λ n. HasFailed n (g.K.Sink.failures c.flush.new.sink)) c.in-Ok.ensures.failures.same c.in-Err-flush.ensures.failures.failed;
    }

pub returns-in-Ok-flush : goal.returns-in-Ok-flush
returns-in-Ok-flush g c =
    let A = g.A.FieldRule.Answers c.args.task.now.rule.now in
    let keeps = c.args.task.now.keeps in
    let d = c.args.task.now.delimiter in
    let columns = c.args.task.now.columns.now in
    let kept = c.args.cutter.now.kept in
    let s = state_of c.args.cutter.now.progress in
    let u = state_of c.answer_row.new.progress in
    let held = c.answer_row.new.work.out in
    let a = g.K.Sink.written c.args.sink.now in
    let b = g.K.Sink.written c.answer_row.new.sink in
    let last = is_last A keeps d columns kept c.args.cutter.now.place c.requires.standing (λ e. not_both c.is_empty.result c.if-is_empty.false (c.is_empty.ensures.none.1 e)) c.in_default.not-Quoted in
    record {
      ends = λ left end. stops_done A keeps d columns kept held s u left a b (g.K.Sink.written c.flush.new.sink) last end
          (subst (λ l. PassesRow A keeps d columns (record { body = l; end = [] }) s u [] held a b) c.as_slice-2.ensures.bytes
          (subst (λ h. PassesRow A keeps d columns (record { body = c.as_slice-2.result.now; end = [] }) s u h held a b) c.requires.empty c.in-Ok.ensures.ok)) c.in-Ok-flush.ensures.ok;
      reads = λ e. cc;
      failures = c.in-Ok-flush.ensures.failures.same ∙ c.in-Ok.ensures.failures.same;
    }
