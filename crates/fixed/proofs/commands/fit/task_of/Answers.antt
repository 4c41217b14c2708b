use Rattle.std.proofs.Common.{◌≡◌, inr, subst, ℕ}
use Rattle.std.specs.Prelude.{◌⊎◌, codes}
use Rattle.command_line.specs.Words.{has_flag, value_of}
use Rattle.command_line.specs.declared.given.Refusal.{Refusal}
use Rattle.fixed_fit.specs.declared.question.Fractions.{Fractions}
use Rattle.fixed.specs.Fit.{IsFitAsked, IsFractionsAsked}
use Rattle.fixed.specs.declared.commands.fit.FitTask.{FitTask}
use Rattle.fixed.proofs.FitLemmas.{fractions_refused}
use Rattle.fixed.proofs.RefusalLemmas.{if_refused}
use Rattle.fixed.proofs.commands.fit.task_of.Goals as goal

pub returns-in_err-fractions_of-clause-refused : goal.returns-in_err-fractions_of-clause-refused
returns-in_err-fractions_of-clause-refused g c =
    let given = c.args.given.now in
    if_refused c.from_residual-in_err-fractions_of.result (λ e. (e ≡ Refusal.NoMemory) ⊎ ((task : FitTask) → ¬ IsFitAsked given task))
    (λ e. inr (fractions_refused given c.in-Ok.kind c.in-Ok.ensures.value
    (subst (λ (w : ℕ). (a : Fractions) → ¬ IsFractionsAsked w (value_of given (codes "whole")) (has_flag given (codes "beyond")) a)
    c.width.ensures.width c.in_err-fractions_of.ensures.refused)))
