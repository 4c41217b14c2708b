use Rattle.std.proofs.Common.{◌-◌, min, refl, ap, arith, length, ◌∙◌}
use Rattle.fixed_numeral.proofs.ViewLemmas.{SplitAt, view_prefix, view_back, length_between}
use Rattle.fixed_numeral.proofs.digit_view.DigitView.split_at.Goals as goal

pub overflow_sub-result-2 : goal.overflow_sub-result-2
overflow_sub-result-2 c =
    let long = length_between c.self.inside.before c.self.inside.left c.self.inside.right c.self.inside.after in
    omega (arith, ap length c.self.view_is, c.requires)

-- how the index cuts the parts
places : (c : goal.After-split_at-right_prefix) → SplitAt c.args.i c.self.inside.before (length c.self.inside.left) (length c.self.inside.right) c.self.inside.after c.min-before.result c.min-left.result c.min-right.result (c.args.i - c.min-before.result - c.min-left.result - c.min-right.result)
places c =
    let long = length_between c.self.inside.before c.self.inside.left c.self.inside.right c.self.inside.after in
    record {
      before = c.min-before.ensures;
      left = c.min-left.ensures ∙ ap (λ n. min (c.args.i - c.min-before.result) n) c.len.ensures;
      right = c.min-right.ensures ∙ ap (λ n. min (c.args.i - c.min-before.result - c.min-left.result) n) c.len-2.ensures;
      after = refl;
      within = omega (arith, ap length c.self.view_is, c.requires);
    }

pub returns-clause-prefix : goal.returns-clause-prefix
returns-clause-prefix c = view_prefix c.args.self.now _ _ c.self.inside.left c.self.inside.right c.args.i _ _ _ _ _ _ c.self.view_is (places c) c.split_at-left_prefix.ensures.prefix c.split_at-right_prefix.ensures.prefix

pub returns-clause-back : goal.returns-clause-back
returns-clause-back c = view_back c.args.self.now _ _ c.self.inside.left c.self.inside.right c.args.i _ _ _ _ _ _ c.self.view_is (places c) c.split_at-left_prefix.ensures.back c.split_at-right_prefix.ensures.back
