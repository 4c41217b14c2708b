-- The self test ends in one way.
use Rattle.std.proofs.Common.{◌≡◌, ℕ, List, ◌++◌, Some, refl, sym, ap, ◌∙◌, arith}
use Rattle.line_engine.specs.declared.status.Status.TheVariants.{Done, Faults, Usage, ReadFault, WriteFault, NoMemory, TooLong}
use Rattle.line_engine.proofs.Public.{answers_one, not_failed}
use Rattle.fixed_respell.specs.Answer.{IsAnswer}
use Rattle.fixed_respell.specs.Lemmas.AnswerLemmas.{answer_one}
use Rattle.fixed_respell.specs.Lemmas.SplitLemmas.{split_is_one}
use Rattle.fixed_respell.specs.SelfLaws.{SelfRunIsTheOne, SplitIsTheOne, SummaryIsTheOne}
use Rattle.fixed_respell.specs.SelfMode.{IsTally, Tally, WritesSummary, self_lines, summary_text, tally_of}

pub split_one : SplitIsTheOne
split_one b bytes xs rest ys others x y = let same = split_is_one b bytes xs rest ys others x y in (same.before, same.after)

tally_one : (n : ℕ) (a b : Tally) → IsTally n a → IsTally n b → a ≡ b
tally_one n a b x y =
    let same = answers_one IsAnswer answer_one (self_lines n) x.replies y.replies x.answers y.answers in
    x.tally_is ∙ ap tally_of same ∙ sym y.tally_is

pub summary_one : SummaryIsTheOne
summary_one n a b faults others x y =
    let same = tally_one n x.tally y.tally x.is_tally y.is_tally in
    (x.text_is ∙ ap (summary_text n) same ∙ sym y.text_is, x.faults_are ∙ ap (λ t. t.faults) same ∙ sym y.faults_are)

-- two written summaries of the same lines are equal
abbrev Written : ℕ → ℕ → List ℕ → List ℕ → ℕ → ℕ → Type 0
Written n faults before after f f' = WritesSummary n faults (Some before) (Some after) f f'

written_one : (n faults others : ℕ) (before a b : List ℕ) (f f' : ℕ) → Written n faults before a f f' → Written n others before b f f' → (a ≡ b) × (faults ≡ others)
written_one n faults others before a b f f' x y =
    let same = summary_one n x.text y.text faults others x.summary y.summary in
    (x.output ∙ ap (λ t. before ++ t) same.0 ∙ sym y.output, same.1)

pub self_run_one : SelfRunIsTheOne
self_run_one n before a b f f' Done Done room x y = (refl, λ no. (written_one n 0 0 before a b f f' x y).0)
self_run_one n before a b f f' Done Faults room x y =
    let none : 0 ≡ y.0 = (written_one n 0 y.0 before a b f f' x y.2).1 in
    absurd (omega (arith, none, y.1))
self_run_one n before a b f f' Done WriteFault room x y = absurd (not_failed f f' room x.calm y.rose)
self_run_one n before a b f f' Faults Done room x y =
    let none : x.0 ≡ 0 = (written_one n x.0 0 before a b f f' x.2 y).1 in
    absurd (omega (arith, none, x.1))
self_run_one n before a b f f' Faults Faults room x y = (refl, λ no. (written_one n x.0 y.0 before a b f f' x.2 y.2).0)
self_run_one n before a b f f' Faults WriteFault room x y = absurd (not_failed f f' room x.2.calm y.rose)
self_run_one n before a b f f' Usage t room x y = absurd x
self_run_one n before a b f f' ReadFault t room x y = absurd x
self_run_one n before a b f f' WriteFault Done room x y = absurd (not_failed f f' room y.calm x.rose)
self_run_one n before a b f f' WriteFault Faults room x y = absurd (not_failed f f' room y.2.calm x.rose)
self_run_one n before a b f f' WriteFault WriteFault room x y = (refl, λ no. absurd (no refl))
self_run_one n before a b f f' NoMemory t room x y = absurd x
self_run_one n before a b f f' TooLong t room x y = absurd x
self_run_one n before a b f f' s t room x y = absurd y
