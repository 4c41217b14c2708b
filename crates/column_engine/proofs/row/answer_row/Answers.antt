use Rattle.std.proofs.Common.{◌++◌, List, ℕ, sym, ◌∙◌, false, subst}
use Rattle.line_engine.specs.Inner.Progress.{Flushes}
use Rattle.column_engine.specs.Answers.{name_of, new_name, one_more}
use Rattle.column_engine.specs.Steps.{state_of}
use Rattle.column_engine.proofs.FeedLemmas.{fails_whole, nil_of, row_empty, row_header, some_of}
use Rattle.column_engine.proofs.SeenLemmas.{if_err_so, observer_same, on_ok_so, sees_header, sees_record}
use Rattle.column_engine.proofs.row.answer_row.Goals as goal

pub returns-in-Err-clause-err : goal.returns-in-Err-clause-err
returns-in-Err-clause-err g c =
    let A = g.A.FieldRule.Answers c.args.task.now.rule.now in
    let keeps = c.args.task.now.keeps in
    let d = c.args.task.now.delimiter in
    let columns = c.args.task.now.columns.now in
    let s = state_of c.args.progress.now in
    fails_whole A keeps d columns s s (record { body = c.args.body.now; end = c.args.end.now }) c.args.end.now c.args.work.now.out (g.K.Sink.written c.args.sink.now) (g.K.Sink.written c.put.new.sink)
    (row_empty A keeps d columns s (record { body = c.args.body.now; end = c.args.end.now }) (nil_of c.args.body.now (sym c.is_empty.ensures ∙ c.if-is_empty.true))) c.in-Err.ensures.err

pub returns-in-Err-put_header-clause-err : goal.returns-in-Err-put_header-clause-err
returns-in-Err-put_header-clause-err g c =
    let A = g.A.FieldRule.Answers c.args.task.now.rule.now in
    let keeps = c.args.task.now.keeps in
    let d = c.args.task.now.delimiter in
    let columns = c.args.task.now.columns.now in
    let s = state_of c.args.progress.now in
    let found = c.read_header.new.progress.asked.items in
    let body = c.args.body.now in
    let end = c.args.end.now in
    let held = c.args.work.now.out in
    let a = g.K.Sink.written c.args.sink.now in
    let b = g.K.Sink.written c.put_header.new.sink in
    fails_whole A keeps d columns s (one_more (record s { headed = false; asked = found }) 0) (record { body = body; end = end }) (body ++ new_name d s.into ++ end) held a b
    (row_header A keeps d columns s (record { body = body; end = end }) found c.requires.short c.if-not-progress.false (some_of body (sym c.is_empty.ensures ∙ c.if-is_empty.false)) c.in_ok-read_header.ensures.ok)
    (subst (λ w. (left : List ℕ) × Flushes held (body ++ new_name d (name_of w) ++ end) left a b) c.read_header.ensures.same.destination c.in-Err-put_header.ensures.err)

pub returns-in-Ok-put_header-clause-saw : goal.returns-in-Ok-put_header-clause-saw
returns-in-Ok-put_header-clause-saw g c =
    let body = c.args.body.now in
    sees_header (g.A.FieldRule.Answers c.args.task.now.rule.now) (g.W.FieldWatch.Saw c.args.task.now.rule.now) c.args.task.now.delimiter (state_of c.args.progress.now) body
    c.args.work.now.records c.put_header.new.work.records c.if-not-progress.false (some_of body (sym c.is_empty.ensures ∙ c.if-is_empty.false))
    (c.in-Ok-put_header.ensures.unseen ∙ c.in_ok-read_header.ensures.unseen)

pub returns-then-not-progress-clause-saw : goal.returns-then-not-progress-clause-saw
returns-then-not-progress-clause-saw g c =
    let body = c.args.body.now in
    on_ok_so c.answer_record.result _ _
    (sees_record (g.A.FieldRule.Answers c.args.task.now.rule.now) (g.W.FieldWatch.Saw c.args.task.now.rule.now) c.args.task.now.delimiter (state_of c.args.progress.now) body
    c.args.work.now.records c.answer_record.new.work.records c.if-not-progress.true (some_of body (sym c.is_empty.ensures ∙ c.if-is_empty.false)))
    c.answer_record.ensures.saw

pub returns-then-not-progress-clause-unseen : goal.returns-then-not-progress-clause-unseen
returns-then-not-progress-clause-unseen g c =
    if_err_so c.answer_record.result _ _ (λ stop same n. observer_same c.args.work.now.records c.answer_record.new.work.records (same n)) c.answer_record.ensures.unseen
