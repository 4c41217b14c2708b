use Rattle.std.proofs.Common.{◌≡◌, ◌==◌, [], ◌∷◌, false, arith}
use Rattle.column_engine.proofs.GatherLemmas.{flushes_all, flushes_both, flushes_prefix, on_err}
use Rattle.column_engine.proofs.SkipLemmas.{still_plain}
use Rattle.column_engine.proofs.skip.pass_byte.Goals as goal

pub returns-then-byte-ne10-clause-plain : goal.returns-then-byte-ne10-clause-plain
returns-then-byte-ne10-clause-plain g c =
    let other : (c.args.byte == 10) ≡ false = grind (arith, c.if-byte-ne10.true) in
    still_plain c.args.out.now c.put.new.out c.args.byte (g.K.Sink.written c.args.sink.now) (g.K.Sink.written c.put.new.sink) other c.in_ok-put.ensures.ok

pub returns-in_err-flush-clause-err : goal.returns-in_err-flush-clause-err
returns-in_err-flush-clause-err g c =
    let a = g.K.Sink.written c.args.sink.now in
    let b = g.K.Sink.written c.put.new.sink in
    let e = g.K.Sink.written c.flush.new.sink in
    let rest = flushes_prefix c.put.new.out b e c.in_err-flush.ensures.err in
    on_err c.from_residual-in_err-flush.result (
      rest.0,
      flushes_both c.args.out.now (c.args.byte ∷ []) [] c.put.new.out rest.0 a b e c.in_ok-put.ensures.ok rest.1,
    )

pub returns-clause-gathered : goal.returns-clause-gathered
returns-clause-gathered g c =
    let a = g.K.Sink.written c.args.sink.now in
    let b = g.K.Sink.written c.put.new.sink in
    let e = g.K.Sink.written c.flush.new.sink in
    rw c.in_ok-flush.ensures.none
    (flushes_both c.args.out.now (c.args.byte ∷ []) [] c.put.new.out [] a b e c.in_ok-put.ensures.ok (flushes_all c.put.new.out b e c.in_ok-flush.ensures.ok))
