use Rattle.std.proofs.Common.{◌≡◌, ◌++◌, ◌∙◌, ℕ, List, Bool, Result, Ok, Err, IfOk, ap, append-nil, refl}
use Rattle.std.specs.Result.{is_err}
use Rattle.line_engine.specs.AnswerText.{AnswerText}
use Rattle.run_engine.specs.LineRun.{AnswersLine}
use Rattle.run_engine.specs.Reply.{Replies, Returns}
use Rattle.run_engine.proofs.answering.answer_one.Goals as goal
use Rattle.run_engine.proofs.answering.answer_one.Goals.{in-Err, in-Ok}

module _ {W N C : Type 0} (A : List ℕ → AnswerText → Type 0) (Notes : List ℕ → N → Type 0) (refusal : List ℕ → C → List ℕ) (Saw : W → ℕ → List ℕ → Result N C → W → Type 0) (most number : ℕ) (line : List ℕ) (old new : W) (before mid after : List ℕ)
    (fault : Bool) where
  answered : (result : Result N C) (note : N) → result ≡ Ok note → Replies A refusal most line before mid result → IfOk result (Notes line) → after ≡ mid → Saw old number line result new → fault ≡ is_err result
      → AnswersLine A (Returns Notes refusal) Saw line number old new before after fault
  answered (Ok n) note is r noted kept saw faulty = record {
    reply = record { text = r.text; fault = _ };
    result = Ok n;
    answer = r.answer;
    is = record { text = r.text; is = refl; note = noted };
    appended = kept ∙ r.appended;
    faulty = faulty;
    saw = saw;
  }
  answered (Err e) note is r noted kept saw faulty = let no : ⊥ = cc in absurd no

  refused : (result : Result N C) (cause : C) → result ≡ Err cause → Replies A refusal most line before mid result → after ≡ mid ++ refusal line cause → Saw old number line result new → fault ≡ is_err result
      → AnswersLine A (Returns Notes refusal) Saw line number old new before after fault
  refused (Ok n) cause is r put saw faulty = let no : ⊥ = cc in absurd no
  refused (Err e) cause is r put saw faulty =
      let same : cause ≡ e = cc in
      record {
        reply = record { text = refusal line e; fault = _ };
        result = Err e;
        answer = r.answer;
        is = record { text = r.text; is = refl; note = tt };
        appended = put ∙ ap (λ c. mid ++ refusal line c) same ∙ ap (λ l. l ++ refusal line e) (r.appended ∙ ap (λ l. before ++ l) r.none ∙ append-nil before);
        faulty = faulty;
        saw = saw;
      }

pub returns-clause-answers : goal.returns-clause-answers
returns-clause-answers g c =
    let rule = c.args.rule.now in
    let e = c.answer-returned.ensures in
    elim c.match-returned.branch [
      | in-Ok w ↦ answered (g.R.Rule.Answers rule) (g.R.Rule.Notes rule) (g.R.Rule.refusal rule) (g.W.Watch.Saw rule) g.R.Rule.MAX_ANSWER c.args.number c.args.line.now c.args.watch.now c.see.new.self c.args.out.now c.answer-returned.new.out c.match-returned.out c.is_err.result
          c.answer-returned.result _ w.in-Ok.is e.answer e.note w.out-is c.see.ensures.saw c.is_err.ensures.value
      | in-Err w ↦ refused (g.R.Rule.Answers rule) (g.R.Rule.Notes rule) (g.R.Rule.refusal rule) (g.W.Watch.Saw rule) g.R.Rule.MAX_ANSWER c.args.number c.args.line.now c.args.watch.now c.see.new.self c.args.out.now c.answer-returned.new.out c.match-returned.out c.is_err.result
          c.answer-returned.result w.in-Err.cause w.in-Err.is e.answer (w.out-is ∙ w.push_refusal.ensures) c.see.ensures.saw c.is_err.ensures.value
    ]
