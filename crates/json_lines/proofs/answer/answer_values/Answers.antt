use Rattle.std.proofs.Common.{◌∙◌, ◌-◌, [], ap, drop, false, length, map, refl, subst, sym, take, true}
use Rattle.json_lines.specs.Path.{step_of}
use Rattle.json_lines.specs.Told.{SeesFrom, end_refused, value_place}
use Rattle.json_lines.proofs.AnswerLemmas.{Goes, Tells, piece_here, replied_as, seen_as, tells_none, tells_stays, tells_value, told_end, told_refused, whole_found, whole_none, whole_refused}
use Rattle.json_lines.specs.declared.answer.Refused.TheVariants.{Value}
use Rattle.json_lines.specs.declared.answer.Space.{Space}
use Rattle.json_lines.proofs.answer.answer_values.Goals as goal
use Rattle.json_lines.proofs.answer.answer_values.Goals.{then-is_at+else-answer_value, else-is_at}

pub pieces-init : goal.pieces-init
pieces-init g c =
    let steps = map step_of c.args.task.now.steps.now in
    let A = g.A.FieldRule.Answers c.args.task.now.rule.now in
    tells_none steps A (g.W.FieldWatch.Saw c.args.task.now.rule.now) c.args.number c.args.task.now.form.quotes c.args.line.now c.new-place.result c.clear.new.self c.args.observer.now (c.new-place.ensures steps) c.clear.ensures

pub returns-then-answer_value-clause-whole : goal.returns-then-answer_value-clause-whole
returns-then-answer_value-clause-whole g c =
    let steps = map step_of c.args.task.now.steps.now in
    let quotes = c.args.task.now.form.quotes in
    let A = g.A.FieldRule.Answers c.args.task.now.rule.now in
    let line = c.args.line.now in
    let end = c.piece_end-end.result in
    let goes = c.pieces.invariant.goes in
    let here = piece_here steps quotes A line c.pieces.at end c.pieces-test.true c.piece_end-end.ensures.value c.piece_end-end.ensures.more c.piece_end-end.ensures.bound in
    whole_refused steps quotes A line c.pieces.at end c.pieces.place c.pieces.is_found c.pieces.space.answer c.answer_value.new.space.answer _ _ (Value c.pieces.at end) here goes
    (sym (c.is_at.ensures goes.frames goes.tracks) ∙ c.if-is_at.true) (replied_as steps quotes A _ c.pieces.space.answer _ _ c.answer_value.result true c.if-answer_value.true refl c.answer_value.ensures.replied) refl

pub returns-then-answer_value-clause-sees : goal.returns-then-answer_value-clause-sees
returns-then-answer_value-clause-sees g c =
    let steps = map step_of c.args.task.now.steps.now in
    let quotes = c.args.task.now.form.quotes in
    let A = g.A.FieldRule.Answers c.args.task.now.rule.now in
    let Saw = g.W.FieldWatch.Saw c.args.task.now.rule.now in
    let line = c.args.line.now in
    let end = c.piece_end-end.result in
    let goes = c.pieces.invariant.goes in
    let here = piece_here steps quotes A line c.pieces.at end c.pieces-test.true c.piece_end-end.ensures.value c.piece_end-end.ensures.more c.piece_end-end.ensures.bound in
    let piece = take (end - c.pieces.at) (drop c.pieces.at line) in
    told_refused steps A Saw c.args.number quotes line c.pieces.at end goes.frames c.pieces.is_found c.args.observer.now c.pieces.observer _ _ here c.piece_end-end.ensures.value c.pieces.invariant.told c.answer_value.new.observer
    (sym (c.is_at.ensures goes.frames goes.tracks) ∙ c.if-is_at.true)
    (seen_as steps A Saw c.args.number c.place_of-at_value.result (value_place c.args.number c.pieces.at piece) piece c.answer_value.result true c.pieces.observer c.answer_value.new.observer c.answer_value.new.observer c.place_of-at_value.ensures c.if-answer_value.true refl c.answer_value.ensures.sees)

pub pieces-preserved : goal.pieces-preserved
pieces-preserved g c =
    let steps = map step_of c.args.task.now.steps.now in
    let quotes = c.args.task.now.form.quotes in
    let A = g.A.FieldRule.Answers c.args.task.now.rule.now in
    let Saw = g.W.FieldWatch.Saw c.args.task.now.rule.now in
    let line = c.args.line.now in
    let end = c.piece_end-end.result in
    let goes = c.pieces.invariant.goes in
    let here = piece_here steps quotes A line c.pieces.at end c.pieces-test.true c.piece_end-end.ensures.value c.piece_end-end.ensures.more c.piece_end-end.ensures.bound in
    let is = c.is_at.ensures goes.frames goes.tracks in
    let tracks = c.pass_piece.ensures.place goes.frames goes.tracks in
    let then = c.pass_piece.new.self in
    let piece = take (end - c.pieces.at) (drop c.pieces.at line) in
    elim c.if-is_at.branch [
      | then-is_at+else-answer_value w ↦
          subst (λ f. Tells steps A Saw c.args.number quotes line end then f c.if-is_at.space.answer c.args.observer.now c.if-is_at.observer) (sym w.is_found-is)
          (tells_value steps A Saw c.args.number quotes line c.pieces.at end c.pieces.place then c.pieces.is_found c.pieces.space.answer c.if-is_at.space.answer c.args.observer.now c.pieces.observer c.if-is_at.observer _ _ here c.piece_end-end.ensures.value c.pieces.invariant
          c.piece_end-end.ensures.bound c.pass_piece.ensures.depth c.piece_end-end.ensures.more (sym is ∙ w.if-is_at.true) tracks (replied_as steps quotes A _ c.pieces.space.answer _ _ w.answer_value.result false w.if-answer_value.false (ap (λ (s : Space). s.answer) w.space-is) w.answer_value.ensures.replied)
          (seen_as steps A Saw c.args.number w.place_of-at_value.result (value_place c.args.number c.pieces.at piece) piece w.answer_value.result false c.pieces.observer w.answer_value.new.observer c.if-is_at.observer w.place_of-at_value.ensures w.if-answer_value.false w.observer-is w.answer_value.ensures.sees))
      | else-is_at w ↦
          subst (λ f. Tells steps A Saw c.args.number quotes line end then f c.if-is_at.space.answer c.args.observer.now c.if-is_at.observer) (sym w.is_found-is)
          (subst (λ o. Tells steps A Saw c.args.number quotes line end then c.pieces.is_found c.if-is_at.space.answer c.args.observer.now o) (sym w.observer-is)
          (tells_stays steps A Saw c.args.number quotes line c.pieces.at end c.pieces.place then c.pieces.is_found c.pieces.space.answer c.if-is_at.space.answer c.args.observer.now c.pieces.observer _ _ here c.piece_end-end.ensures.value c.pieces.invariant
          c.piece_end-end.ensures.bound c.pass_piece.ensures.depth c.piece_end-end.ensures.more (sym is ∙ w.if-is_at.false) tracks (ap (λ (s : Space). s.answer) w.space-is ∙ w.append.ensures)))
    ]

pub returns-then-is_found-clause-whole : goal.returns-then-is_found-clause-whole
returns-then-is_found-clause-whole g c =
    let steps = map step_of c.args.task.now.steps.now in
    let quotes = c.args.task.now.form.quotes in
    let A = g.A.FieldRule.Answers c.args.task.now.rule.now in
    whole_found steps quotes A c.args.line.now c.pieces.at c.pieces.place c.pieces.space.answer
    (subst (λ f. Goes steps quotes A c.args.line.now c.pieces.at c.pieces.place f c.pieces.space.answer) c.if-is_found.true c.pieces.invariant.goes) c.pieces-test.false

pub returns-then-is_found-clause-sees : goal.returns-then-is_found-clause-sees
returns-then-is_found-clause-sees g c =
    let steps = map step_of c.args.task.now.steps.now in
    let A = g.A.FieldRule.Answers c.args.task.now.rule.now in
    let Saw = g.W.FieldWatch.Saw c.args.task.now.rule.now in
    let line = c.args.line.now in
    subst (λ f. SeesFrom steps A Saw c.args.number (length line) [] false 0 line c.args.observer.now (end_refused f) c.pieces.observer) c.if-is_found.true
    (told_end steps A Saw c.args.number line c.pieces.at c.pieces.invariant.goes.frames c.pieces.is_found c.args.observer.now c.pieces.observer c.pieces.invariant.told c.pieces-test.false)

pub returns-clause-whole : goal.returns-clause-whole
returns-clause-whole g c =
    let steps = map step_of c.args.task.now.steps.now in
    let quotes = c.args.task.now.form.quotes in
    let A = g.A.FieldRule.Answers c.args.task.now.rule.now in
    whole_none steps quotes A c.args.line.now c.pieces.at c.pieces.place c.pieces.space.answer c.refuse.new.answer
    (subst (λ f. Goes steps quotes A c.args.line.now c.pieces.at c.pieces.place f c.pieces.space.answer) c.if-is_found.false c.pieces.invariant.goes) c.pieces-test.false c.refuse.ensures

pub returns-clause-sees : goal.returns-clause-sees
returns-clause-sees g c =
    let steps = map step_of c.args.task.now.steps.now in
    let A = g.A.FieldRule.Answers c.args.task.now.rule.now in
    let Saw = g.W.FieldWatch.Saw c.args.task.now.rule.now in
    let line = c.args.line.now in
    subst (λ f. SeesFrom steps A Saw c.args.number (length line) [] false 0 line c.args.observer.now (end_refused f) c.pieces.observer) c.if-is_found.false
    (told_end steps A Saw c.args.number line c.pieces.at c.pieces.invariant.goes.frames c.pieces.is_found c.args.observer.now c.pieces.observer c.pieces.invariant.told c.pieces-test.false)
