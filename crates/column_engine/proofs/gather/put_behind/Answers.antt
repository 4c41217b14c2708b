use Rattle.std.proofs.lemmas.Result.{on_ok_weaker, on_err_weaker}
use Rattle.std.specs.Io.KnownBytes.{Appends}
use Rattle.line_engine.specs.Output.{AppendsPrefix}
use Rattle.column_engine.proofs.GatherLemmas.{on_err, put_part, put_rest, put_whole}
use Rattle.column_engine.proofs.gather.put_behind.Goals as goal

pub returns-in_err-flush-clause-err : goal.returns-in_err-flush-clause-err
returns-in_err-flush-clause-err g c =
    on_err c.from_residual.result (put_part c.args.out.now c.args.bytes.now (g.K.Sink.written c.args.sink.now) (g.K.Sink.written c.flush.new.sink) c.in_err-flush.ensures.err)

pub returns-clause-ok : goal.returns-clause-ok
returns-clause-ok g c =
    let a = g.K.Sink.written c.args.sink.now in
    let b = g.K.Sink.written c.flush.new.sink in
    let e = g.K.Sink.written c.write_whole.new.sink in
    on_ok_weaker c.write_whole.result
    (λ (last : Appends b e c.args.bytes.now). put_whole c.args.out.now c.flush.new.out c.args.bytes.now a b e c.in_ok-flush.ensures.none c.in_ok-flush.ensures.ok last)
    c.write_whole.ensures.ok

pub returns-clause-err : goal.returns-clause-err
returns-clause-err g c =
    let a = g.K.Sink.written c.args.sink.now in
    let b = g.K.Sink.written c.flush.new.sink in
    let e = g.K.Sink.written c.write_whole.new.sink in
    on_err_weaker c.write_whole.result
    (λ (last : AppendsPrefix b e c.args.bytes.now). put_rest c.args.out.now c.args.bytes.now a b e c.in_ok-flush.ensures.ok last)
    c.write_whole.ensures.err
