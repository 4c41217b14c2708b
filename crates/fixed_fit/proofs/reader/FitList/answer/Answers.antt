use Rattle.std.proofs.Common.{Option, subst, sym}
use Rattle.line_engine.specs.Lines.{lines}
use Rattle.fixed_fit.specs.Inner.Reading.{HasLines}
use Rattle.fixed_fit.specs.Run.{IsAnswerTo, asked_by}
use Rattle.fixed_fit.specs.Unfit.{said}
use Rattle.fixed_fit.specs.declared.question.Widths.{Widths}
use Rattle.fixed_fit.proofs.reader.FitList.answer.Goals as goal

pub answer_of-requires : goal.answer_of-requires
answer_of-requires g c =
    let self = c.args.self.now in
    let q = self.question in
    (c.requires.0, subst (λ (l : Option Widths). HasLines q.radix (asked_by q l self.bound.items) c.requires.0 self.reader) c.in-None.is c.requires.1)

pub bounded_answer-requires : goal.bounded_answer-requires
bounded_answer-requires g c =
    let self = c.args.self.now in
    let q = self.question in
    (self.bound.items, c.requires.0, subst (λ (l : Option Widths). HasLines q.radix (asked_by q l self.bound.items) c.requires.0 self.reader) c.in-Some.is c.requires.1)

pub returns-in-None : goal.returns-in-None
returns-in-None g c = λ input h.
    let self = c.args.self.now in
    let q = self.question in
    subst (λ (l : Option Widths). IsAnswerTo q l self.bound.items input (said c.answer_of.result)) (sym c.in-None.is)
    (c.answer_of.ensures input (subst (λ (l : Option Widths). HasLines q.radix (asked_by q l self.bound.items) (lines input) self.reader) c.in-None.is h))

pub returns-in-Some : goal.returns-in-Some
returns-in-Some g c = λ input h.
    let self = c.args.self.now in
    let q = self.question in
    subst (λ (l : Option Widths). IsAnswerTo q l self.bound.items input (said c.bounded_answer.result)) (sym c.in-Some.is)
    (c.bounded_answer.ensures self.bound.items input (subst (λ (l : Option Widths). HasLines q.radix (asked_by q l self.bound.items) (lines input) self.reader) c.in-Some.is h))
