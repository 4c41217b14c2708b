use Rattle.std.proofs.Common.{sym, subst, inr}
use Rattle.column_engine.specs.Run.{counts_of, first_state}
use Rattle.column_engine.specs.Skip.{HasRunAfter}
use Rattle.column_engine.specs.Steps.{state_of}
use Rattle.column_engine.proofs.SkipLemmas.{after_counts}
use Rattle.column_engine.proofs.run.run_column.Goals as goal

pub returns-in-Ok-Ok-Ok-clause-run : goal.returns-in-Ok-Ok-Ok-clause-run
returns-in-Ok-Ok-Ok-clause-run g c =
    let A = g.A.FieldRule.Answers c.args.task.now.rule.now in
    let keeps = c.args.task.now.keeps in
    let d = c.args.task.now.delimiter in
    let columns = c.args.task.now.columns.now in
    let skipped = c.args.task.now.skipped in
    let start = first_state c.args.task.now.has_header c.args.task.now.destination.now columns in
    let stop = c.answer_after_lines-stop.result in
    let u = state_of c.answer_after_lines-stop.new.cutter.progress in
    let v = counts_of c.end_of.result in
    let left = g.S.Source.left c.args.source.now in
    let left' = g.S.Source.left c.answer_after_lines-stop.new.source in
    let a = g.K.Sink.written c.args.sink.now in
    let b = g.K.Sink.written c.answer_after_lines-stop.new.sink in
    inr (subst (λ k. HasRunAfter skipped k A keeps d columns start v left left' a b) (sym c.end_of.ensures.stop)
    (after_counts skipped stop A keeps d columns start u v left left' a b c.end_of.ensures.counts
    (subst (λ s. HasRunAfter skipped stop A keeps d columns s u left left' a b) c.in-Ok-Ok-Ok.ensures.progress c.answer_after_lines-stop.ensures.run)))
