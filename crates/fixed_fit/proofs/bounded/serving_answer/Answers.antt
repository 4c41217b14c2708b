use Rattle.std.proofs.Common.{◌≡◌, ◌∙◌, ◌-◌, ℕ, List, true, false, refl, sym, subst, arith}
use Rattle.fixed_fit.specs.Fitting.{choice}
use Rattle.fixed_fit.specs.Inner.Serving.{IsBelow, IsBestOf}
use Rattle.fixed_fit.specs.Unfit.{named}
use Rattle.fixed_fit.specs.declared.lengths.Lengths.{Lengths}
use Rattle.fixed_fit.specs.Within.{IsTried}
use Rattle.fixed_fit.proofs.ServingLemmas.{in_most, left_in}
use Rattle.fixed_fit.proofs.bounded.serving_answer.Goals as goal

pub found_answer-found-requires : goal.found_answer-found-requires
found_answer-found-requires g c =
    let known = c.requires.known c.if-not-serving.false in
    let best = c.best_of-best.result in
    let is = subst (λ (l : List Lengths). IsBestOf c.args.serving.now.low l best) c.deref.ensures.value c.best_of-best.ensures in
    let left = left_in c.args.question.now.radix (choice known.2 c.args.question.now.fractions) known.1 best c.args.serving.now.lengths.items is.among known.4 in
    let longer = is.longer in
    let most = in_most best c.args.serving.now.lengths.items is.among in
    let few = left.lengths.few in
    record {
      within = omega (arith, longer, few);
      kept = omega (arith, longer, most, known.5, known.3.count_is);
      known = (known.0, known.1, known.3, left.lengths.fit (best.count - 1) (omega (arith, longer)));
    }

pub returns : goal.returns
returns g c =
    let on : c.args.serving.now.is_served ≡ true = c.if-not-serving.false in
    let best = c.best_of-best.result in
    let longer = c.best_of-best.ensures.longer in
    record {
      none_text = λ over. let no : true ≡ false = sym on ∙ over in cc;
      none_fault = λ over. let no : true ≡ false = sym on ∙ over in cc;
      some = λ _ count list h. record {
        best = best;
        is_best = subst (λ (l : List Lengths). IsBestOf c.args.serving.now.low l best) c.deref.ensures.value c.best_of-best.ensures;
        frac = best.count - 1;
        last = omega (arith, longer);
        before = named c.found_answer-found.result;
        some = c.found_answer-found.ensures.some count list h;
        below = c.width_below-below.result;
        is_below = subst (λ (n : ℕ). IsBelow c.args.widths n c.args.serving.now.width c.width_below-below.result) c.width.ensures.width c.width_below-below.ensures;
        text = c.push_lesser.ensures;
        fault = refl;
      };
    }

pub width_below-below-requires : goal.width_below-below-requires
width_below-below-requires g c = subst (λ (n : ℕ). IsTried c.args.widths n c.args.serving.now.width) (sym c.width.ensures.width) (c.requires.tried c.if-not-serving.false)
