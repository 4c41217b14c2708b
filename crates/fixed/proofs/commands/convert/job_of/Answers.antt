use Rattle.std.proofs.Common.{◌≡◌, ◌∙◌, Bool, IfErr, IfOk, false, subst, sym, true}
use Rattle.std.specs.Prelude.{codes}
use Rattle.command_line.specs.Words.{has_flag}
use Rattle.fixed.specs.Convert.{IsJobBy}
use Rattle.fixed.specs.declared.inputs.Job.{Job}
use Rattle.fixed.proofs.commands.convert.job_of.Goals as goal

pub returns-then-has-clause-value : goal.returns-then-has-clause-value
returns-then-has-clause-value c =
    let words : has_flag c.args.given.now (codes "words") ≡ true = sym c.has.ensures ∙ c.if-has.true in
    subst (λ (by : Bool). IfOk c.words_of.result (λ job. IsJobBy by c.args.given.now c.args.rule job)) (sym words) c.words_of.ensures.value

pub returns-then-has-clause-refused : goal.returns-then-has-clause-refused
returns-then-has-clause-refused c =
    let words : has_flag c.args.given.now (codes "words") ≡ true = sym c.has.ensures ∙ c.if-has.true in
    subst (λ (by : Bool). IfErr c.words_of.result (λ _. (job : Job) → ¬ IsJobBy by c.args.given.now c.args.rule job)) (sym words) c.words_of.ensures.refused

pub returns-else-has-clause-value : goal.returns-else-has-clause-value
returns-else-has-clause-value c =
    let lines : has_flag c.args.given.now (codes "words") ≡ false = sym c.has.ensures ∙ c.if-has.false in
    subst (λ (by : Bool). IfOk c.lines_of.result (λ job. IsJobBy by c.args.given.now c.args.rule job)) (sym lines) c.lines_of.ensures.value

pub returns-else-has-clause-refused : goal.returns-else-has-clause-refused
returns-else-has-clause-refused c =
    let lines : has_flag c.args.given.now (codes "words") ≡ false = sym c.has.ensures ∙ c.if-has.false in
    subst (λ (by : Bool). IfErr c.lines_of.result (λ _. (job : Job) → ¬ IsJobBy by c.args.given.now c.args.rule job)) (sym lines) c.lines_of.ensures.refused
