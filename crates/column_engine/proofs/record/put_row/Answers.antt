use Rattle.std.proofs.Common.{◌++◌, List, ℕ}
use Rattle.std.proofs.lemmas.Result.{on_ok_weaker, on_err_weaker}
use Rattle.line_engine.specs.Inner.Progress.{Flushes}
use Rattle.column_engine.proofs.GatherLemmas.{flushes_both, flushes_more}
use Rattle.column_engine.proofs.record.put_row.Goals as goal

pub returns-in-Err-clause-err : goal.returns-in-Err-clause-err
returns-in-Err-clause-err g c =
    let p = c.in-Err.ensures.err in
    (p.0 ++ c.args.end.now, flushes_more c.args.out.now c.args.body.now p.0 c.args.end.now (g.K.Sink.written c.args.sink.now) (g.K.Sink.written c.put.new.sink) p.1)

pub returns-in-Ok-clause-ok : goal.returns-in-Ok-clause-ok
returns-in-Ok-clause-ok g c =
    let b = g.K.Sink.written c.put.new.sink in
    let e = g.K.Sink.written c.put-in-Ok.new.sink in
    on_ok_weaker c.put-in-Ok.result
    (λ (last : Flushes c.put.new.out c.args.end.now c.put-in-Ok.new.out b e).
    flushes_both c.args.out.now c.args.body.now c.args.end.now c.put.new.out c.put-in-Ok.new.out (g.K.Sink.written c.args.sink.now) b e c.in-Ok.ensures.ok last)
    c.put-in-Ok.ensures.ok

pub returns-in-Ok-clause-err : goal.returns-in-Ok-clause-err
returns-in-Ok-clause-err g c =
    let b = g.K.Sink.written c.put.new.sink in
    let e = g.K.Sink.written c.put-in-Ok.new.sink in
    on_err_weaker c.put-in-Ok.result
    (λ (last : (left : List ℕ) × Flushes c.put.new.out c.args.end.now left b e).
    (last.0, flushes_both c.args.out.now c.args.body.now c.args.end.now c.put.new.out last.0 (g.K.Sink.written c.args.sink.now) b e c.in-Ok.ensures.ok last.1))
    c.put-in-Ok.ensures.err
