use Rattle.std.proofs.Common.{◌+◌, ◌-◌, ◌++◌, length, arith, ap, subst, sym, ◌∙◌, refl, take, drop}
use Rattle.column_engine.specs.Feeding.{FeedsRows}
use Rattle.column_engine.specs.Rows.{Row}
use Rattle.column_engine.specs.Steps.{state_of}
use Rattle.column_engine.specs.Limits.{longest_record}
use Rattle.column_engine.proofs.FeedLemmas.{begins_with, ends_at, fails_long, fails_row, feeds_none, feeds_row, long_ended, long_standing, piece_one, standing_more, standing_start}
use Rattle.column_engine.proofs.RowLemmas.{rest_is}
use Rattle.column_engine.proofs.cutter.feed.Goals as goal

pub rows-init : goal.rows-init
rows-init g c = record {
  same = refl;
  standing = c.requires.standing;
  as_many = c.requires.as_many;
  fed = feeds_none (g.A.FieldRule.Answers c.args.task.now.rule.now) c.args.task.now.keeps c.args.task.now.delimiter c.args.task.now.columns.now
      (c.args.cutter.now.kept ++ c.args.chunk.now) (state_of c.args.cutter.now.progress) c.args.work.now.out (g.K.Sink.written c.args.sink.now);
}

pub returns-in-None-clause-standing : goal.returns-in-None-clause-standing
returns-in-None-clause-standing g c =
    let fact = c.record_end-end.ensures.none c.in-None.is in
    rw c.append.ensures (standing_more c.args.task.now.delimiter c.rows.cutter.kept c.rows.rest.now c.rows.cutter.place c.record_end-end.result.1 c.rows.invariant.standing fact.0 fact.1)

pub returns-then-rest-room-clause-err : goal.returns-then-rest-room-clause-err
returns-then-rest-room-clause-err g c =
    let fact = c.record_end-end.ensures.none c.in-None.is in
    fails_long (g.A.FieldRule.Answers c.args.task.now.rule.now) c.args.task.now.keeps c.args.task.now.delimiter c.args.task.now.columns.now
    (c.args.cutter.now.kept ++ c.args.chunk.now) (c.rows.cutter.kept ++ c.rows.rest.now) (state_of c.args.cutter.now.progress) (state_of c.rows.cutter.progress)
    c.args.work.now.out c.rows.work.out (g.K.Sink.written c.args.sink.now) (g.K.Sink.written c.rows.sink) c.rows.invariant.fed
    (long_standing c.args.task.now.delimiter longest_record c.rows.cutter.kept c.rows.rest.now c.rows.cutter.place c.record_end-end.result.1 c.rows.invariant.standing fact.0 fact.1
    (omega (arith, c.if-rest-room.true, c.len-room.ensures.count, c.len-room.ensures.most)))

pub returns-then-end-room-clause-err : goal.returns-then-end-room-clause-err
returns-then-end-room-clause-err g c =
    let at = ends_at c.args.task.now.delimiter c.rows.cutter.place c.record_end-end.result.1 c.rows.rest.now c.record_end-end.result.0 c.in-Some.end c.in-Some.is c.record_end-end.ensures.some in
    fails_long (g.A.FieldRule.Answers c.args.task.now.rule.now) c.args.task.now.keeps c.args.task.now.delimiter c.args.task.now.columns.now
    (c.args.cutter.now.kept ++ c.args.chunk.now) (c.rows.cutter.kept ++ c.rows.rest.now) (state_of c.args.cutter.now.progress) (state_of c.rows.cutter.progress)
    c.args.work.now.out c.rows.work.out (g.K.Sink.written c.args.sink.now) (g.K.Sink.written c.rows.sink) c.rows.invariant.fed
    (long_ended c.args.task.now.delimiter longest_record c.rows.cutter.kept c.rows.rest.now c.in-Some.end c.rows.cutter.place c.record_end-end.result.1 c.rows.invariant.standing at
    (omega (arith, c.if-end-room.true, c.len-room.ensures.count, c.len-room.ensures.most)))

pub returns-in-Err-clause-err : goal.returns-in-Err-clause-err
returns-in-Err-clause-err g c =
    let d = c.args.task.now.delimiter in
    let kept = c.rows.cutter.kept in
    let rest = c.rows.rest.now in
    let end = c.in-Some.end in
    let piece = take (end + 1 - end) (drop end rest) in
    let at = ends_at d c.rows.cutter.place c.record_end-end.result.1 rest c.record_end-end.result.0 end c.in-Some.is c.record_end-end.ensures.some in
    let row : Row = record { body = kept ++ take end rest; end = piece } in
    let begins = begins_with d kept rest piece end c.rows.cutter.place c.record_end-end.result.1 c.rows.invariant.standing at (piece_one rest end at.low) in
    fails_row (g.A.FieldRule.Answers c.args.task.now.rule.now) c.args.task.now.keeps d c.args.task.now.columns.now c.in-Err.stop
    (c.args.cutter.now.kept ++ c.args.chunk.now) (kept ++ rest) row (state_of c.args.cutter.now.progress) (state_of c.rows.cutter.progress) (state_of c.end_row.new.cutter.progress)
    c.args.work.now.out c.rows.work.out c.end_row.new.work.out (g.K.Sink.written c.args.sink.now) (g.K.Sink.written c.rows.sink) (g.K.Sink.written c.end_row.new.sink)
    c.rows.invariant.fed begins c.in-Err.ensures.err c.in-Err.ensures.counts

pub rows-preserved : goal.rows-preserved
unfolding begins_with
rows-preserved g c =
    let A = g.A.FieldRule.Answers c.args.task.now.rule.now in
    let keeps = c.args.task.now.keeps in
    let d = c.args.task.now.delimiter in
    let columns = c.args.task.now.columns.now in
    let kept = c.rows.cutter.kept in
    let rest = c.rows.rest.now in
    let end = c.in-Some.end in
    let piece = take (end + 1 - end) (drop end rest) in
    let at = ends_at d c.rows.cutter.place c.record_end-end.result.1 rest c.record_end-end.result.0 end c.in-Some.is c.record_end-end.ensures.some in
    let row : Row = record { body = kept ++ take end rest; end = piece } in
    let begins = begins_with d kept rest piece end c.rows.cutter.place c.record_end-end.result.1 c.rows.invariant.standing at (piece_one rest end at.low) in
    let s = state_of c.args.cutter.now.progress in
    let u = state_of c.end_row.new.cutter.progress in
    let a = g.K.Sink.written c.args.sink.now in
    let z = g.K.Sink.written c.end_row.new.sink in
    let bytes = c.args.cutter.now.kept ++ c.args.chunk.now in
    let left = take (length rest - (end + 1)) (drop (end + 1) rest) in
    let fed : FeedsRows A keeps d columns bytes (drop (end + 1) rest) s u c.args.work.now.out c.end_row.new.work.out a z =
    feeds_row A keeps d columns bytes (kept ++ rest) row s (state_of c.rows.cutter.progress) u
    c.args.work.now.out c.rows.work.out c.end_row.new.work.out a (g.K.Sink.written c.rows.sink) z c.rows.invariant.fed begins c.in-Ok.ensures.ok in
    record {
      same = c.in-Ok.ensures.failures.same ∙ c.rows.invariant.same;
      standing = standing_start d c.end_row.new.cutter.kept c.end_row.new.cutter.place c.in-Ok.ensures.kept c.in-Ok.ensures.place;
      as_many = c.in-Ok.ensures.as_many;
      fed = subst (λ l. FeedsRows A keeps d columns bytes l s u c.args.work.now.out c.end_row.new.work.out a z)
          (sym (ap (λ k. k ++ left) c.in-Ok.ensures.kept ∙ rest_is rest end)) fed;
    }
