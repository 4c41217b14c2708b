use Rattle.std.proofs.Common.{◌≡◌, ◌<◌, [], ap, ◌∙◌, take, length, arith, rules, inl, inr, length-append, length-take}
use Rattle.std.proofs.lemmas.Grind.{common_steps}
use Rattle.std.specs.Io.KnownBytes.{IsAtEnd}
use Rattle.column_engine.specs.Steps.{state_of}
use Rattle.column_engine.proofs.RunLemmas.{runs_ended, runs_endless, runs_fail, runs_more}
use Rattle.column_engine.proofs.run.answer_text.Goals as goal

pub returns-in-Ok-eq0-clause-run : goal.returns-in-Ok-eq0-clause-run
returns-in-Ok-eq0-clause-run g c =
    let A = g.A.FieldRule.Answers c.args.task.now.rule.now in
    let keeps = c.args.task.now.keeps in
    let d = c.args.task.now.delimiter in
    let columns = c.args.task.now.columns.now in
    let s = state_of c.args.cutter.now.progress in
    let left'' = g.S.Source.left c.read.new.self in
    let zero_is : c.in-Ok-eq0.field-0 ≡ 0 = grind (arith, common_steps, c.in-Ok-eq0.field-0-test) in
    let none : take c.in-Ok-eq0.field-0 c.read.new.buf ≡ [] = ap (λ n. take n c.read.new.buf) zero_is in
    let room : 0 < length c.read.new.buf = search (rules, c.read.auto.buf) in
    let end : IsAtEnd left'' = c.in-Ok-eq0.ensures.bytes.1 zero_is room in
    inl (runs_ended A keeps d columns c.end_text.result c.chunks.cutter.kept (take c.in-Ok-eq0.field-0 c.read.new.buf) s (state_of c.chunks.cutter.progress) (state_of c.end_text.new.cutter.progress)
    (g.S.Source.left c.args.source.now) (g.S.Source.left c.chunks.source) left'' (g.K.Sink.written c.args.sink.now) (g.K.Sink.written c.chunks.sink) (g.K.Sink.written c.end_text.new.sink)
    c.chunks.invariant.on c.in-Ok-eq0.ensures.bytes.0 none (c.end_text.ensures.ends left'' end))

pub returns-in-Err-take_chunk-clause-run : goal.returns-in-Err-take_chunk-clause-run
returns-in-Err-take_chunk-clause-run g c =
    let left'' = g.S.Source.left c.read.new.self in
    inl (runs_fail (g.A.FieldRule.Answers c.args.task.now.rule.now) c.args.task.now.keeps c.args.task.now.delimiter c.args.task.now.columns.now
    c.in-Err-take_chunk.stop c.chunks.cutter.kept (take c.in-Ok.count c.read.new.buf) (state_of c.args.cutter.now.progress) (state_of c.chunks.cutter.progress) (state_of c.take_chunk.new.cutter.progress)
    (g.S.Source.left c.args.source.now) (g.S.Source.left c.chunks.source) left'' (g.K.Sink.written c.args.sink.now) (g.K.Sink.written c.chunks.sink) (g.K.Sink.written c.take_chunk.new.sink)
    c.chunks.invariant.on c.in-Ok.ensures.bytes.0 (c.in-Err-take_chunk.ensures.err left''))

pub chunks-preserved : goal.chunks-preserved
unfolding runs_more
chunks-preserved g c =
    let inv = c.chunks.invariant in
    let buf = c.read.new.buf in
    let on = runs_more (g.A.FieldRule.Answers c.args.task.now.rule.now) c.args.task.now.keeps c.args.task.now.delimiter c.args.task.now.columns.now
    c.chunks.cutter.kept c.take_chunk.new.cutter.kept (take c.in-Ok.count buf) (state_of c.args.cutter.now.progress) (state_of c.chunks.cutter.progress) (state_of c.take_chunk.new.cutter.progress)
    (g.S.Source.left c.args.source.now) (g.S.Source.left c.chunks.source) (g.S.Source.left c.read.new.self) (g.K.Sink.written c.args.sink.now) (g.K.Sink.written c.chunks.sink) (g.K.Sink.written c.take_chunk.new.sink)
    inv.on c.in-Ok.ensures.bytes.0 c.in-Ok-take_chunk.ensures.ok in
    record {
      same_source = c.in-Ok.ensures.failures.same ∙ inv.same_source;
      same_sink = c.in-Ok-take_chunk.ensures.failures.same ∙ inv.same_sink;
      standing = c.in-Ok-take_chunk.ensures.standing;
      as_many = c.in-Ok-take_chunk.ensures.as_many;
      empty = c.in-Ok-take_chunk.ensures.empty;
      on = on;
      many = omega (arith, inv.many, c.in-Ok.ensures.bound, length-append inv.on.so_far.bytes (take c.in-Ok.count buf), length-take c.in-Ok.count buf);
    }

pub returns-clause-run : goal.returns-clause-run
returns-clause-run g c =
    inr (runs_endless (g.A.FieldRule.Answers c.args.task.now.rule.now) c.args.task.now.keeps c.args.task.now.delimiter c.args.task.now.columns.now
    c.chunks.cutter.kept (state_of c.args.cutter.now.progress) (state_of c.chunks.cutter.progress) (g.S.Source.left c.args.source.now) (g.S.Source.left c.chunks.source)
    (g.K.Sink.written c.args.sink.now) (g.K.Sink.written c.chunks.sink) c.chunks.invariant.on (omega (arith, c.chunks-test.false, c.chunks.invariant.many)))
