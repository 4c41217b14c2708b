use Rattle.std.proofs.Common.{◌≡◌, ◌-◌, ℕ, arith, subst}
use Rattle.fixed_fit.specs.Inner.Lengths.{IsSomeAnswer}
use Rattle.fixed_fit.specs.Unfit.{named}
use Rattle.fixed_fit.proofs.answer.lengths_answer.Goals as goal

pub found_answer-requires : goal.found_answer-requires
found_answer-requires g c =
    let known = c.requires.known in
    let some = c.if-count-eq0.false in
    record {
      within = omega (arith, some, known.3.few);
      kept = omega (arith, some, known.2.count_is, known.4);
      known = (known.0, known.1, known.2, known.3.fit (c.args.lengths.now.count - 1) (omega (arith, some)));
    }

pub returns : goal.returns
returns g c = λ count list h.
    let all = c.args.lengths.now in
    record {
      none_text = λ e. absurd (c.if-count-eq0.false e);
      none_fault = λ e. absurd (c.if-count-eq0.false e);
      some = λ f e.
          let same : all.count - 1 ≡ f = omega (arith, e) in
          subst (λ (k : ℕ). IsSomeAnswer c.args.question.now list all.kind k all.place (named c.found_answer.result)) same (c.found_answer.ensures.some count list h);
    }
