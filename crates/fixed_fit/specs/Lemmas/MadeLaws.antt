-- At most one answer is made of a list.
use Rattle.std.proofs.Common.{◌≡◌, ◌∙◌, ℕ, List, sym, ap}
use Rattle.std.specs.declared.convert.Infallible.{Infallible}
use Rattle.line_engine.specs.AnswerText.{AnswerText}
use Rattle.run_engine.specs.Machines.{Agree, How, going, finished, lacking, stopped}
use Rattle.fixed_fit.specs.Run.{MakesBy}
use Rattle.fixed_fit.specs.Unfit.{said}
use Rattle.fixed_fit.specs.declared.reader.FitList.{FitList}

pub made_one : (first a b : FitList) (bytes made other : List ℕ) (spent cost : ℕ) (how then : How Infallible)
    → MakesBy first bytes made spent how a → MakesBy first bytes other cost then b → Agree how made then other
made_one first a b bytes made other spent cost going going p q = p.3.0 ∙ sym q.3.0
made_one first a b bytes made other spent cost going (finished g) p q = tt
made_one first a b bytes made other spent cost going lacking p q = tt
made_one first a b bytes made other spent cost going (stopped late t) p q = absurd q.3
made_one first a b bytes made other spent cost (finished f) going p q = tt
made_one first a b bytes made other spent cost (finished f) (finished g) p q =
    let x = p.3 in
    let y = q.3 in
    let same : said y.answer ≡ said x.answer = x.one (said y.answer) y.is in (
      x.text_is ∙ sym (y.text_is ∙ ap (λ (t : AnswerText). t.text) same),
      x.fault_is ∙ sym (y.fault_is ∙ ap (λ (t : AnswerText). t.fault) same),
    )
made_one first a b bytes made other spent cost (finished f) lacking p q = tt
made_one first a b bytes made other spent cost (finished f) (stopped late t) p q = absurd q.3
made_one first a b bytes made other spent cost lacking then p q = tt
made_one first a b bytes made other spent cost (stopped late s) then p q = absurd p.3
