use Rattle.std.proofs.Common.{◌≡◌, ◌∙◌, ℕ, List, Option, [], ap, arith, inl, refl, subst, sym}
use Rattle.std.proofs.lemmas.Grind.{common_steps}
use Rattle.run_engine.specs.LineStatus.{IsStatus}
use Rattle.run_engine.specs.Machines.{going}
use Rattle.run_engine.specs.Run.{HasRun}
use Rattle.run_engine.specs.Seen.{Moment, Seen, moment, seen_of}
use Rattle.fixed_command.specs.Layout.{LineLayout}
use Rattle.fixed_command.specs.Limits.{limit_of}
use Rattle.fixed_fit.specs.Inner.Reading.{HasRead}
use Rattle.fixed_fit.specs.Run.{MakesBy, asked_by}
use Rattle.fixed_fit.specs.declared.question.Question.{Question}
use Rattle.fixed_fit.specs.declared.question.Widths.{Widths}
use Rattle.fixed_fit.specs.declared.reader.FitList.{FitList}
use Rattle.fixed_fit.proofs.run.run_fit.Goals as goal

fresh : (first : FitList) (l : Option LineLayout) (q : Question) (widths : Option Widths) (bound : List ℕ) → first.reader.layout ≡ l → first.question ≡ q → first.widths ≡ widths → first.bound.items ≡ bound → HasRead q.radix (asked_by q widths bound) l [] first.reader → MakesBy first [] [] 0 going first
fresh first l q widths bound d e f h read =
    let Q : Question → Option Widths → List ℕ → Type 0 = λ q w b. HasRead q.radix (asked_by q w b) first.reader.layout [] first.reader in
    let here : Q q widths bound = subst (λ k. HasRead q.radix (asked_by q widths bound) k [] first.reader) (sym d) read in
    (refl, refl, refl, (refl, subst (λ q. Q q first.widths first.bound.items) (sym e) (subst (λ w. Q q w first.bound.items) (sym f) (subst (λ b. Q q widths b) (sym h) here))))

pub run-end-requires-clause-fresh : goal.run-end-requires-clause-fresh
run-end-requires-clause-fresh g c = let is = c.in-Ok.ensures in fresh c.in-Ok.list c.args.form.now.layout.now c.args.question.now c.args.widths c.args.bound.now is.read.layout is.question is.widths is.bound is.read

pub returns-in-Ok : goal.returns-in-Ok
returns-in-Ok g c =
    let end = c.run-end.new.out.io in
    let source : ◌≡◌ {A = g.row.S.Denot} c.source-1.given.0 end.source.now = grind (arith, common_steps, c.run-end.ensures.same.source, c.new-out.ensures.io) in
    let sink : ◌≡◌ {A = g.row.K.Denot} c.sink-1.given.0 end.sink.now = grind (arith, common_steps, c.run-end.ensures.same.sink, c.new-out.ensures.io) in
    let m = c.new-out.result.io.source.ghost_name in
    let n = c.new-out.result.io.sink.ghost_name in
    let seen : g.row.S.Denot → g.row.K.Denot → ℕ → ℕ → Seen = λ s k i j. seen_of (g.S.Source.left s) (g.S.Source.asked s) (g.S.Source.failures s) (g.K.Sink.written k) (g.K.Sink.failures k) i j in
    let a = seen c.new-out.result.io.source.now c.new-out.result.io.sink.now m n in
    let before : a ≡ seen c.args.source.now c.args.sink.now m n = grind (arith, common_steps, c.new-out.ensures.io) in
    let b = seen end.source.now end.sink.now end.source.ghost_name end.sink.ghost_name in
    let after : b ≡ seen c.source-1.given.0 c.sink-1.given.0 m n =
    ap (λ (s : g.row.S.Denot). seen s end.sink.now end.source.ghost_name end.sink.ghost_name) (sym source)
    ∙ ap (λ (k : g.row.K.Denot). seen c.source-1.given.0 k end.source.ghost_name end.sink.ghost_name) (sym sink)
    ∙ ap (λ i. seen c.source-1.given.0 c.sink-1.given.0 i end.sink.ghost_name) c.run-end.ensures.same.source
    ∙ ap (λ j. seen c.source-1.given.0 c.sink-1.given.0 m j) c.run-end.ensures.same.sink in
    let first = c.in-Ok.list in
    let at : Moment → Moment → Type 0 = λ x y. HasRun (λ bytes text spent how it. MakesBy first bytes text spent how it.0) c.run-end.new.machine (limit_of c.args.form.now.limit.now) x y c.run-end.result in
    let steps = c.new.new.steps in
    let then = c.run-end.new.steps in
    let held = c.run-end.new.out.text in
    inl (record {
      first = first;
      last = c.run-end.new.machine;
      steps = steps;
      steps' = then;
      held = held;
      source = m;
      sink = n;
      end = c.run-end.result;
      question_is = c.in-Ok.ensures.question;
      widths_are = c.in-Ok.ensures.widths;
      bound_is = c.in-Ok.ensures.bound;
      layout_is = c.in-Ok.ensures.read.layout;
      ends = subst (IsStatus c.run-end.result) (sym c.of.ensures.status) c.status_of.ensures;
      run = subst (λ s. at (moment (seen c.args.source.now c.args.sink.now m n) [] steps) (moment s held then)) after
          (subst (λ s. at (moment s [] steps) (moment b held then)) before (subst (λ t. at (moment a t steps) (moment b held then)) c.new-out.ensures.text (subst (λ limit. HasRun (λ bytes text spent how it. MakesBy first bytes text spent how it.0) c.run-end.new.machine limit (moment a c.new-out.result.text steps) (moment b held then) c.run-end.result) c.bytes_within.ensures.value c.run-end.ensures)));
      unfit_is = c.of.ensures.unfit;
    })
