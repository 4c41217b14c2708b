use Rattle.std.proofs.Common.{◌≡◌, ℕ, List, subst, sym}
use Rattle.line_engine.specs.AnswerText.{AnswerText}
use Rattle.line_engine.specs.Program.{Outside}
use Rattle.line_engine.specs.Refusals.{IsWritten}
use Rattle.line_engine.specs.declared.status.Status.{Status}
use Rattle.fixed_command.specs.Runs.{IsWholeRun}
use Rattle.fixed_command.proofs.task.run_whole_rule.Goals as goal

whole : (A : List ℕ → AnswerText → Type 0) (limit bytes : ℕ) (before after : Outside) (status ended : Status) → bytes ≡ limit → ended ≡ status → IsWholeRun A bytes before after status → IsWholeRun A limit before after ended
whole A limit bytes before after status ended same is runs = subst (λ s. IsWholeRun A limit before after s) (sym is) (subst (λ n. IsWholeRun A n before after status) same runs)

pub returns-clause-run : goal.returns-clause-run
returns-clause-run g c = whole (IsWritten c.args.writes_refusal (g.R.WholeRule.Answers c.args.rule.now)) _ _ _ _ _ _ c.whole_within-bytes.ensures.value c.of.ensures.status c.answer_whole-end.ensures.run

pub returns-clause-reports : goal.returns-clause-reports
returns-clause-reports g c = record {
  refusal = c.answer_whole-end.result.refusal;
  tells = rw c.of.ensures.status c.answer_whole-end.ensures.refusal;
  count = rw c.of.ensures.refusals c.of_whole.ensures.count;
  first = rw c.of.ensures.refusals c.of_whole.ensures.first;
}
