use Rattle.std.proofs.Common.{◌≡◌, ◌+◌, ◌-◌, ℕ, List, length, take, drop, subst, ap, arith, length-drop}
use Rattle.std.proofs.lemmas.List.{length-take}
use Rattle.fixed_c.specs.Rows.{before_zero}
use Rattle.fixed_c.proofs.RowLemmas.{text_there, zero_short}
use Rattle.fixed_c.proofs.rows.end_of_text.Goals as goal

pub returns-clause-within : goal.returns-clause-within
returns-clause-within c =
    let m : (c.args.start + c.args.size) - c.args.start ≡ c.args.size = omega arith in
    let row : List ℕ = take c.args.size (drop c.args.start c.args.rows.now) in
    let text : c.before_zero.result.now ≡ before_zero row = subst (λ (n : ℕ). c.before_zero.result.now ≡ before_zero (take n (drop c.args.start c.args.rows.now))) m c.before_zero.ensures in
    omega (arith, c.requires, ap length text, zero_short row, length-take c.args.size (drop c.args.start c.args.rows.now), length-drop c.args.start c.args.rows.now)

pub returns-clause-text : goal.returns-clause-text
returns-clause-text c =
    let m : (c.args.start + c.args.size) - c.args.start ≡ c.args.size = omega arith in
    let text : c.before_zero.result.now ≡ before_zero (take c.args.size (drop c.args.start c.args.rows.now)) = subst (λ (n : ℕ). c.before_zero.result.now ≡ before_zero (take n (drop c.args.start c.args.rows.now))) m c.before_zero.ensures in
    rw text (text_there c.args.rows.now c.args.start c.args.size)
