use Rattle.std.proofs.Common.{◌∙◌, ◌++◌, ◌≤◌, ap, length, map, refl, subst, sym, take}
use Rattle.json_lines.specs.Answers.{accepted, kept, longest, refusal}
use Rattle.json_lines.specs.Inner.Made.{IsMade}
use Rattle.json_lines.specs.Path.{step_of}
use Rattle.line_engine.specs.Lines.{kept_length}
use Rattle.json_lines.specs.declared.fault.JsonFault.TheVariants.{LineTooLong}
use Rattle.json_lines.proofs.AnswerLemmas.{kept_made, read_line, sees_long, sees_read, sees_skipped, stays_skipped, too_long, whole_line}
use Rattle.json_lines.proofs.answer.answer_line.Goals as goal

pub returns-then-line-gt-MAX_LINE-clause-made : goal.returns-then-line-gt-MAX_LINE-clause-made
returns-then-line-gt-MAX_LINE-clause-made g c =
    let steps = map step_of c.args.task.now.steps.now in
    (refusal LineTooLong, too_long steps c.args.task.now.form (g.A.FieldRule.Answers c.args.task.now.rule.now) c.args.line.now c.if-line-gt-MAX_LINE.true, record { text_is = c.refuse.ensures; fault = refl })

pub returns-then-is_skipped-clause-made : goal.returns-then-is_skipped-clause-made
returns-then-is_skipped-clause-made g c =
    let steps = map step_of c.args.task.now.steps.now in
    let line = c.args.line.now in (
      accepted line,
      stays_skipped steps c.args.task.now.form (g.A.FieldRule.Answers c.args.task.now.rule.now) line c.if-line-gt-MAX_LINE.false (sym c.is_skipped.ensures ∙ c.if-is_skipped.true),
      record { text_is = c.append.ensures ∙ (ap (λ l. take kept_length (l ++ line)) c.clear.ensures ∙ whole_line line c.if-line-gt-MAX_LINE.false); fault = refl },
    )

pub returns-then-is_skipped-clause-short : goal.returns-then-is_skipped-clause-short
returns-then-is_skipped-clause-short g c =
    let line = c.args.line.now in
    subst (λ l. length l ≤ longest) (sym (c.append.ensures ∙ (ap (λ l. take kept_length (l ++ line)) c.clear.ensures ∙ whole_line line c.if-line-gt-MAX_LINE.false))) c.if-line-gt-MAX_LINE.false

pub returns-then-is_refused-clause-made : goal.returns-then-is_refused-clause-made
returns-then-is_refused-clause-made g c =
    let steps = map step_of c.args.task.now.steps.now in
    let form = c.args.task.now.form in
    let line = c.args.line.now in
    let read = c.in_ok-refused.ensures.made.0 in
    let text = c.append-then-is_refused.ensures ∙ (ap (λ l. take kept_length (l ++ line)) c.clear-then-is_refused.ensures ∙ whole_line line c.if-line-gt-MAX_LINE.false) in (
      kept form.keeps line read,
      read_line steps form (g.A.FieldRule.Answers c.args.task.now.rule.now) line read c.if-line-gt-MAX_LINE.false (sym c.is_skipped.ensures ∙ c.if-is_skipped.false) c.in_ok-refused.ensures.made.1,
      subst (λ l. IsMade (kept form.keeps line read) l c.in_ok-refused.refused) (sym text)
          (kept_made form.keeps line c.answer_read.new.space.answer read c.in_ok-refused.refused c.if-task.true (sym c.is_refused.ensures ∙ c.if-is_refused.true) c.in_ok-refused.ensures.made.2),
    )

pub returns-then-is_refused-clause-short : goal.returns-then-is_refused-clause-short
returns-then-is_refused-clause-short g c =
    let line = c.args.line.now in
    subst (λ l. length l ≤ longest) (sym (c.append-then-is_refused.ensures ∙ (ap (λ l. take kept_length (l ++ line)) c.clear-then-is_refused.ensures ∙ whole_line line c.if-line-gt-MAX_LINE.false))) c.if-line-gt-MAX_LINE.false

pub returns-then-line-gt-MAX_LINE-clause-sees : goal.returns-then-line-gt-MAX_LINE-clause-sees
returns-then-line-gt-MAX_LINE-clause-sees g c =
    sees_long c.args.task.now (g.A.FieldRule.Answers c.args.task.now.rule.now) (g.W.FieldWatch.Saw c.args.task.now.rule.now) c.args.number c.args.line.now c.args.observer.now c.if-line-gt-MAX_LINE.true

pub returns-then-is_skipped-clause-sees : goal.returns-then-is_skipped-clause-sees
returns-then-is_skipped-clause-sees g c =
    sees_skipped c.args.task.now (g.A.FieldRule.Answers c.args.task.now.rule.now) (g.W.FieldWatch.Saw c.args.task.now.rule.now) c.args.number c.args.line.now c.args.observer.now c.if-line-gt-MAX_LINE.false (sym c.is_skipped.ensures ∙ c.if-is_skipped.true)

pub returns-then-is_refused-clause-sees : goal.returns-then-is_refused-clause-sees
returns-then-is_refused-clause-sees g c =
    sees_read c.args.task.now (g.A.FieldRule.Answers c.args.task.now.rule.now) (g.W.FieldWatch.Saw c.args.task.now.rule.now) c.args.number c.args.line.now c.args.observer.now c.in_ok-refused.refused c.answer_read.new.observer c.if-line-gt-MAX_LINE.false
    (sym c.is_skipped.ensures ∙ c.if-is_skipped.false) c.in_ok-refused.ensures.sees

pub returns-else-task-clause-sees : goal.returns-else-task-clause-sees
returns-else-task-clause-sees g c =
    sees_read c.args.task.now (g.A.FieldRule.Answers c.args.task.now.rule.now) (g.W.FieldWatch.Saw c.args.task.now.rule.now) c.args.number c.args.line.now c.args.observer.now c.in_ok-refused.refused c.answer_read.new.observer c.if-line-gt-MAX_LINE.false
    (sym c.is_skipped.ensures ∙ c.if-is_skipped.false) c.in_ok-refused.ensures.sees
