use Rattle.std.proofs.Common.{◌∙◌, [], ◌∷◌, length-append, arith, subst}
use Rattle.std.proofs.KnownBytes.{Consumes-nil}
use Rattle.std.specs.Io.KnownBytes.{Consumes}
use Rattle.column_engine.specs.Begin.{given}
use Rattle.column_engine.proofs.SkipLemmas.{broken, passing_more, unflushed}
use Rattle.column_engine.proofs.skip.pass_lines.Goals as goal

pub returns-in-Err-clause-err : goal.returns-in-Err-clause-err
returns-in-Err-clause-err g c =
    let at = g.S.Source.left c.bytes.source in
    unflushed c.args.count c.bytes.left c.bytes.out (g.S.Source.left c.args.source.now) at at
    (g.K.Sink.written c.args.sink.now) (g.K.Sink.written c.bytes.sink) (g.K.Sink.written c.flush.new.sink)
    c.bytes.invariant.passing (Consumes-nil at) c.in-Err.ensures.err

pub returns-in-Err-flush-clause-err : goal.returns-in-Err-flush-clause-err
returns-in-Err-flush-clause-err g c =
    let before = g.S.Source.left c.bytes.source in
    let after = g.S.Source.left c.read_byte.new.source in
    unflushed c.args.count c.bytes.left c.bytes.out (g.S.Source.left c.args.source.now) before after
    (g.K.Sink.written c.args.sink.now) (g.K.Sink.written c.bytes.sink) (g.K.Sink.written c.flush-in-Ok-None.new.sink)
    c.bytes.invariant.passing (subst (λ f. Consumes before after (given f)) c.in-Ok-None.field-0-is c.in-Ok-None.ensures.bytes) c.in-Err-flush.ensures.err

pub returns-in-Err-pass_byte-clause-err : goal.returns-in-Err-pass_byte-clause-err
returns-in-Err-pass_byte-clause-err g c =
    let before = g.S.Source.left c.bytes.source in
    let after = g.S.Source.left c.read_byte.new.source in
    let part = c.in-Err-pass_byte.ensures.err in
    broken c.args.count c.bytes.left c.in-Ok-Some.byte c.bytes.out part.0 (g.S.Source.left c.args.source.now) before after
    (g.K.Sink.written c.args.sink.now) (g.K.Sink.written c.bytes.sink) (g.K.Sink.written c.pass_byte.new.sink)
    (grind (arith, c.if-left-eq0.false)) c.bytes.invariant.passing
    (subst (λ f. Consumes before after (given f)) c.in-Ok-Some.field-0-is c.in-Ok-Some.ensures.bytes) part.1

pub bytes-preserved : goal.bytes-preserved
unfolding passing_more
bytes-preserved g c =
    let before = g.S.Source.left c.bytes.source in
    let after = g.S.Source.left c.read_byte.new.source in
    let inv = c.bytes.invariant in
    let byte = c.in-Ok-Some.byte in
    record {
      same_source = c.in-Ok-Some.ensures.failures.same ∙ inv.same_source;
      same_sink = c.in-Ok-pass_byte.ensures.failures.same ∙ inv.same_sink;
      passing = passing_more c.args.count c.bytes.left c.in-Ok-pass_byte.now byte c.bytes.out c.pass_byte.new.out (g.S.Source.left c.args.source.now) before after
          (g.K.Sink.written c.args.sink.now) (g.K.Sink.written c.bytes.sink) (g.K.Sink.written c.pass_byte.new.sink)
          (grind (arith, c.if-left-eq0.false)) c.in-Ok-pass_byte.ensures.ok inv.passing
          (subst (λ f. Consumes before after (given f)) c.in-Ok-Some.field-0-is c.in-Ok-Some.ensures.bytes) c.in-Ok-pass_byte.ensures.gathered c.in-Ok-pass_byte.ensures.plain;
      many = omega (arith, inv.many, length-append inv.passing.bytes (byte ∷ []));
    }

pub returns-in-Err-flush-2-clause-err : goal.returns-in-Err-flush-2-clause-err
returns-in-Err-flush-2-clause-err g c =
    let at = g.S.Source.left c.bytes.source in
    unflushed c.args.count c.bytes.left c.bytes.out (g.S.Source.left c.args.source.now) at at
    (g.K.Sink.written c.args.sink.now) (g.K.Sink.written c.bytes.sink) (g.K.Sink.written c.flush-2.new.sink)
    c.bytes.invariant.passing (Consumes-nil at) c.in-Err-flush-2.ensures.err
