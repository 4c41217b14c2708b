use Rattle.std.proofs.Common.{subst}
use Rattle.column_engine.specs.Begin.{Begins}
use Rattle.column_engine.specs.Steps.{state_of}
use Rattle.column_engine.proofs.FeedLemmas.{standing_start}
use Rattle.column_engine.proofs.RunLemmas.{begin_ends, begin_fails, begin_marked, begin_other, begin_unread, begin_unwritten, part_strip, strip_whole}
use Rattle.column_engine.proofs.run.begin_text.Goals as goal

pub take_chunk-requires-clause-standing : goal.take_chunk-requires-clause-standing
take_chunk-requires-clause-standing g c = standing_start c.args.task.now.delimiter c.args.cutter.now.kept c.args.cutter.now.place c.requires.kept c.requires.place

pub take_chunk-requires-in-Ok-Ended-clause-standing : goal.take_chunk-requires-in-Ok-Ended-clause-standing
take_chunk-requires-in-Ok-Ended-clause-standing g c = standing_start c.args.task.now.delimiter c.args.cutter.now.kept c.args.cutter.now.place c.requires.kept c.requires.place

pub returns-in-Ok-clause-standing : goal.returns-in-Ok-clause-standing
returns-in-Ok-clause-standing g c = standing_start c.args.task.now.delimiter c.args.cutter.now.kept c.args.cutter.now.place c.requires.kept c.requires.place

pub returns-in-Err-clause-err : goal.returns-in-Err-clause-err
returns-in-Err-clause-err g c =
    let A = g.A.FieldRule.Answers c.args.task.now.rule.now in
    let keeps = c.args.task.now.keeps in
    let d = c.args.task.now.delimiter in
    let columns = c.args.task.now.columns.now in
    let kept = c.args.cutter.now.kept in
    let s = state_of c.args.cutter.now.progress in
    let left = g.S.Source.left c.args.source.now in
    let left' = g.S.Source.left c.read_start.new.source in
    let a = g.K.Sink.written c.args.sink.now in
    let bytes = c.read_start.new.start in
    begin_unread A keeps d columns bytes s left left' a c.in-Err.ensures.err c.read_start.ensures.taken

pub returns-in-Err-write_whole-clause-err : goal.returns-in-Err-write_whole-clause-err
returns-in-Err-write_whole-clause-err g c =
    let A = g.A.FieldRule.Answers c.args.task.now.rule.now in
    let keeps = c.args.task.now.keeps in
    let d = c.args.task.now.delimiter in
    let columns = c.args.task.now.columns.now in
    let kept = c.args.cutter.now.kept in
    let s = state_of c.args.cutter.now.progress in
    let left = g.S.Source.left c.args.source.now in
    let left' = g.S.Source.left c.read_start.new.source in
    let a = g.K.Sink.written c.args.sink.now in
    let bytes = c.read_start.new.start in
    begin_unwritten A keeps d columns bytes s left left' a (g.K.Sink.written c.write_whole.new.sink) (subst (λ how. Begins how bytes left') c.in-Ok-Marked.field-0-is c.in-Ok-Marked.ensures.begins) c.read_start.ensures.taken c.in-Err-write_whole.ensures.err

pub returns-in-Ok-clause-ok : goal.returns-in-Ok-clause-ok
returns-in-Ok-clause-ok g c =
    let A = g.A.FieldRule.Answers c.args.task.now.rule.now in
    let keeps = c.args.task.now.keeps in
    let d = c.args.task.now.delimiter in
    let columns = c.args.task.now.columns.now in
    let kept = c.args.cutter.now.kept in
    let s = state_of c.args.cutter.now.progress in
    let left = g.S.Source.left c.args.source.now in
    let left' = g.S.Source.left c.read_start.new.source in
    let a = g.K.Sink.written c.args.sink.now in
    let bytes = c.read_start.new.start in
    begin_marked A keeps d columns bytes kept s left left' a (g.K.Sink.written c.write_whole.new.sink) (subst (λ how. Begins how bytes left') c.in-Ok-Marked.field-0-is c.in-Ok-Marked.ensures.begins) c.read_start.ensures.taken c.in-Ok.ensures.ok c.requires.kept

pub returns-in-Err-take_chunk-clause-err : goal.returns-in-Err-take_chunk-clause-err
returns-in-Err-take_chunk-clause-err g c =
    let A = g.A.FieldRule.Answers c.args.task.now.rule.now in
    let keeps = c.args.task.now.keeps in
    let d = c.args.task.now.delimiter in
    let columns = c.args.task.now.columns.now in
    let kept = c.args.cutter.now.kept in
    let s = state_of c.args.cutter.now.progress in
    let left = g.S.Source.left c.args.source.now in
    let left' = g.S.Source.left c.read_start.new.source in
    let a = g.K.Sink.written c.args.sink.now in
    let bytes = c.read_start.new.start in
    let goes = subst (λ how. Begins how bytes left') c.in-Ok-Other.field-0-is c.in-Ok-Other.ensures.begins in
    begin_fails A keeps d columns c.in-Err-take_chunk.stop kept c.as_bytes.result.now bytes s (state_of c.take_chunk.new.cutter.progress) left left' a (g.K.Sink.written c.take_chunk.new.sink)
    c.requires.kept c.as_bytes.ensures.value (strip_whole bytes goes) c.read_start.ensures.taken (c.in-Err-take_chunk.ensures.err left')

pub returns-in-Ok-take_chunk-clause-ok : goal.returns-in-Ok-take_chunk-clause-ok
returns-in-Ok-take_chunk-clause-ok g c =
    let A = g.A.FieldRule.Answers c.args.task.now.rule.now in
    let keeps = c.args.task.now.keeps in
    let d = c.args.task.now.delimiter in
    let columns = c.args.task.now.columns.now in
    let kept = c.args.cutter.now.kept in
    let s = state_of c.args.cutter.now.progress in
    let left = g.S.Source.left c.args.source.now in
    let left' = g.S.Source.left c.read_start.new.source in
    let a = g.K.Sink.written c.args.sink.now in
    let bytes = c.read_start.new.start in
    let goes = subst (λ how. Begins how bytes left') c.in-Ok-Other.field-0-is c.in-Ok-Other.ensures.begins in
    begin_other A keeps d columns kept c.as_bytes.result.now bytes c.take_chunk.new.cutter.kept s (state_of c.take_chunk.new.cutter.progress) left left' a (g.K.Sink.written c.take_chunk.new.sink)
    c.requires.kept c.as_bytes.ensures.value goes c.read_start.ensures.taken c.in-Ok-take_chunk.ensures.ok

pub returns-in-Err-take_chunk-2-clause-err : goal.returns-in-Err-take_chunk-2-clause-err
returns-in-Err-take_chunk-2-clause-err g c =
    let A = g.A.FieldRule.Answers c.args.task.now.rule.now in
    let keeps = c.args.task.now.keeps in
    let d = c.args.task.now.delimiter in
    let columns = c.args.task.now.columns.now in
    let kept = c.args.cutter.now.kept in
    let s = state_of c.args.cutter.now.progress in
    let left = g.S.Source.left c.args.source.now in
    let left' = g.S.Source.left c.read_start.new.source in
    let a = g.K.Sink.written c.args.sink.now in
    let bytes = c.read_start.new.start in
    let part = (subst (λ how. Begins how bytes left') c.in-Ok-Ended.field-0-is c.in-Ok-Ended.ensures.begins).0 in
    begin_fails A keeps d columns c.in-Err-take_chunk-2.stop kept c.as_bytes-in-Ok-Ended.result.now bytes s (state_of c.take_chunk-in-Ok-Ended.new.cutter.progress) left left' a
    (g.K.Sink.written c.take_chunk-in-Ok-Ended.new.sink)
    c.requires.kept c.as_bytes-in-Ok-Ended.ensures.value (part_strip bytes part) c.read_start.ensures.taken (c.in-Err-take_chunk-2.ensures.err left')

pub returns-in-Ok-take_chunk-2-clause-err : goal.returns-in-Ok-take_chunk-2-clause-err
returns-in-Ok-take_chunk-2-clause-err g c =
    let A = g.A.FieldRule.Answers c.args.task.now.rule.now in
    let keeps = c.args.task.now.keeps in
    let d = c.args.task.now.delimiter in
    let columns = c.args.task.now.columns.now in
    let kept = c.args.cutter.now.kept in
    let s = state_of c.args.cutter.now.progress in
    let left = g.S.Source.left c.args.source.now in
    let left' = g.S.Source.left c.read_start.new.source in
    let a = g.K.Sink.written c.args.sink.now in
    let bytes = c.read_start.new.start in
    let both = subst (λ how. Begins how bytes left') c.in-Ok-Ended.field-0-is c.in-Ok-Ended.ensures.begins in
    begin_ends A keeps d columns c.end_text.result kept c.as_bytes-in-Ok-Ended.result.now bytes c.take_chunk-in-Ok-Ended.new.cutter.kept
    s (state_of c.take_chunk-in-Ok-Ended.new.cutter.progress) (state_of c.end_text.new.cutter.progress) left left' a
    (g.K.Sink.written c.take_chunk-in-Ok-Ended.new.sink) (g.K.Sink.written c.end_text.new.sink)
    c.requires.kept c.as_bytes-in-Ok-Ended.ensures.value (part_strip bytes both.0) c.read_start.ensures.taken c.in-Ok-take_chunk-2.ensures.ok (c.end_text.ensures.ends left' both.1)
