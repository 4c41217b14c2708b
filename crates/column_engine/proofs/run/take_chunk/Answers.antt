use Rattle.std.proofs.Common.{◌++◌, subst}
use Rattle.column_engine.specs.Feeding.{FailsFeed, FeedsRows}
use Rattle.column_engine.specs.Steps.{state_of}
use Rattle.column_engine.proofs.RunLemmas.{feeds_unwritten, stops_feed, stops_unread}
use Rattle.column_engine.proofs.run.take_chunk.Goals as goal

pub returns-in-Err-clause-err : goal.returns-in-Err-clause-err
returns-in-Err-clause-err g c = λ left.
    let A = g.A.FieldRule.Answers c.args.task.now.rule.now in
    let keeps = c.args.task.now.keeps in
    let d = c.args.task.now.delimiter in
    let columns = c.args.task.now.columns.now in
    let bytes = c.args.cutter.now.kept ++ c.args.chunk.now in
    let s = state_of c.args.cutter.now.progress in
    let u = state_of c.feed.new.cutter.progress in
    let held = c.feed.new.work.out in
    let a = g.K.Sink.written c.args.sink.now in
    let b = g.K.Sink.written c.feed.new.sink in
    stops_feed A keeps d columns c.in-Err.stop c.stop_after.result bytes s u held left a b (g.K.Sink.written c.stop_after.new.sink)
    (subst (λ h. FailsFeed c.in-Err.stop A keeps d columns bytes s u h held a b) c.requires.empty c.in-Err.ensures.err)
    c.stop_after.ensures.which (c.stop_after.ensures.wrote a)

pub returns-in-Err-clause-failures : goal.returns-in-Err-clause-failures
returns-in-Err-clause-failures g c = record {
  same = tt;
  stops = c.stop_after.ensures.failures (g.K.Sink.failures c.args.sink.now) c.in-Err.ensures.failures.stops;
}

pub returns-in-Err-flush-clause-err : goal.returns-in-Err-flush-clause-err
returns-in-Err-flush-clause-err g c = λ left.
    let A = g.A.FieldRule.Answers c.args.task.now.rule.now in
    let keeps = c.args.task.now.keeps in
    let d = c.args.task.now.delimiter in
    let columns = c.args.task.now.columns.now in
    let bytes = c.args.cutter.now.kept ++ c.args.chunk.now in
    let s = state_of c.args.cutter.now.progress in
    let t = state_of c.feed.new.cutter.progress in
    let held = c.feed.new.work.out in
    let a = g.K.Sink.written c.args.sink.now in
    let b = g.K.Sink.written c.feed.new.sink in
    feeds_unwritten A keeps d columns bytes c.feed.new.cutter.kept held s t left a b (g.K.Sink.written c.flush.new.sink)
    (subst (λ h. FeedsRows A keeps d columns bytes c.feed.new.cutter.kept s t h held a b) c.requires.empty c.in-Ok.ensures.ok)
    c.in-Err-flush.ensures.err

pub returns-in-Err-clause-reads : goal.returns-in-Err-clause-reads
returns-in-Err-clause-reads g c =
    stops_unread (g.A.FieldRule.Answers c.args.task.now.rule.now) c.args.task.now.keeps c.args.task.now.delimiter c.args.task.now.columns.now c.in-Err.stop c.stop_after.result
    (c.args.cutter.now.kept ++ c.args.chunk.now) (state_of c.args.cutter.now.progress) (state_of c.feed.new.cutter.progress) c.args.work.now.out c.feed.new.work.out
    (g.K.Sink.written c.args.sink.now) (g.K.Sink.written c.feed.new.sink) c.in-Err.ensures.err c.stop_after.ensures.which
