use Rattle.std.proofs.Common.{Err, arith, inl, inr, refl}
use Rattle.std.proofs.lemmas.Grind.{common_steps}
use Rattle.line_engine.specs.Lines.{lines}
use Rattle.fixed_fit.specs.Bounded.{at_width}
use Rattle.fixed_fit.specs.Unfit.{said}
use Rattle.fixed_fit.specs.Within.{most_width}
use Rattle.fixed_fit.proofs.AnswerLemmas.{fault_is_answer}
use Rattle.fixed_fit.proofs.BoundedLemmas.{plain_bounded, plain_served, signed_bounded, signed_served}
use Rattle.fixed_fit.proofs.bounded.bounded_answer.Goals as goal

pub serving_answer-requires : goal.serving_answer-requires
serving_answer-requires g c =
    let r = c.requires in
    let q = c.args.question.now in
    let reader = c.args.reader.now in
    record {
      tried = λ at. (((r.2.within refl c.in-None.is).signed).narrowed at).least.tried;
      served = λ at. (((r.2.within refl c.in-None.is).signed).serving at).served;
      known = λ at. signed_served q c.args.widths r.0 r.1 reader r.2 c.in-None.is at;
    }

pub serving_answer-requires-else-has_sign : goal.serving_answer-requires-else-has_sign
serving_answer-requires-else-has_sign g c =
    let r = c.requires in
    let q = c.args.question.now in
    let reader = c.args.reader.now in
    record {
      tried = λ at. (((r.2.within refl c.in-None.is).plain).narrowed at).least.tried;
      served = λ at. (((r.2.within refl c.in-None.is).plain).serving at).served;
      known = λ at. plain_served q c.args.widths r.0 r.1 reader r.2 c.in-None.is at;
    }

pub returns-in-Some : goal.returns-in-Some
returns-in-Some g c = λ bound input h.
    let q = c.args.question.now in
    inl (fault_is_answer (at_width q (most_width c.args.widths q.kind.width)) input c.args.reader.now.progress c.in-Some.fault (said (Err c.no_numeral.result)) h.progress h.radix c.in-Some.is (grind (arith, common_steps, c.no_numeral.ensures, c.in-Some.is)) refl)

pub returns-then-has_sign : goal.returns-then-has_sign
returns-then-has_sign g c = λ bound input h.
    let its = c.serving_answer.ensures in
    inr (signed_bounded c.args.question.now c.args.widths bound (lines input) c.args.reader.now (said c.serving_answer.result) h c.in-None.is (grind (arith, common_steps, c.signed.ensures, c.if-has_sign.true)) its.none_text its.none_fault (λ at. its.some at _ (lines input) (h.errors c.in-None.is)))

pub returns-else-has_sign : goal.returns-else-has_sign
returns-else-has_sign g c = λ bound input h.
    let its = c.serving_answer-else-has_sign.ensures in
    inr (plain_bounded c.args.question.now c.args.widths bound (lines input) c.args.reader.now (said c.serving_answer-else-has_sign.result) h c.in-None.is (grind (arith, common_steps, c.signed.ensures, c.if-has_sign.false)) its.none_text its.none_fault (λ at. its.some at _ (lines input) (h.errors c.in-None.is)))
