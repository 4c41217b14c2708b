use Rattle.std.proofs.Common.{◌-◌, length, map}
use Rattle.json_lines.specs.Path.{step_of}
use Rattle.json_lines.proofs.AnswerLemmas.{Tells}
use Rattle.json_lines.proofs.answer.answer_values.Given as goal

abbrev pub invariant-pieces : goal.invariant-pieces
invariant-pieces g l = Tells (map step_of l.task.steps.now) (g.A.FieldRule.Answers l.task.rule.now) (g.W.FieldWatch.Saw l.task.rule.now) l.number l.task.form.quotes l.line l.at l.place l.is_found l.space.answer l.initial.observer l.observer

abbrev pub decreases-pieces : goal.decreases-pieces
decreases-pieces g l = length l.line - l.at
