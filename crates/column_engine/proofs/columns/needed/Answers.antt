use Rattle.std.proofs.Common.{◌≡◌, length, sym, ◌∙◌, ap, arith, drop, ◌≤◌, drop-cons, get_or, ◌<◌, ◌+◌, List, ℕ, max, suc}
use Rattle.std.proofs.lemmas.List.{drop_all}
use Rattle.column_engine.specs.Answers.{needed, needed_for}
use Rattle.column_engine.specs.declared.columns.Range.{Range}
use Rattle.column_engine.proofs.columns.needed.Goals as goal

max_assoc : (a b c : ℕ) → max a (max b c) ≡ max (max a b) c
max_assoc a b c = omega arith

max_zero : (a : ℕ) → max a 0 ≡ a
max_zero a = omega arith

more : (asked : List Range) (most k : ℕ) (none : Range) → k < length asked → needed asked ≡ max most (needed (drop k asked))
    → needed asked ≡ max (max most (needed_for (get_or asked k none))) (needed (drop (k + 1) asked))
more asked most k none low before =
    let next : suc k ≡ k + 1 = omega arith in
    before ∙ ap (λ l. max most (needed l)) (drop-cons asked k none low)
    ∙ max_assoc most (needed_for (get_or asked k none)) (needed (drop (suc k) asked)) ∙ ap (λ n. max (max most (needed_for (get_or asked k none))) (needed (drop n asked))) next

pub spans-preserved : goal.spans-preserved
spans-preserved c = rw (c.greater-most.ensures, c.needed_for.ensures) (more c.args.asked.now c.spans.most c.spans.at (record { from = 0; to = 0 }) c.spans-test.true c.spans.invariant)

pub returns : goal.returns
returns c =
    let high : length c.args.asked.now ≤ c.spans.at = omega arith in
    sym (c.spans.invariant ∙ ap (λ l. max c.spans.most (needed l)) (drop_all c.spans.at c.args.asked.now high) ∙ max_zero c.spans.most)
