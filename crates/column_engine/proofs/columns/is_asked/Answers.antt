use Rattle.std.proofs.Common.{◌≡◌, length, sym, ◌∙◌, ap, arith, drop, ◌≤◌, refl, true, false, drop-cons, get_or, ◌<◌, ◌+◌, List, ℕ, suc}
use Rattle.std.proofs.lemmas.List.{drop_all}
use Rattle.column_engine.specs.Answers.{is_asked, is_within}
use Rattle.column_engine.specs.declared.columns.Range.{Range}
use Rattle.column_engine.proofs.columns.is_asked.Goals as goal

here : (asked : List Range) (column k : ℕ) (none : Range) → k < length asked → is_within column (get_or asked k none) ≡ true → is_asked (drop k asked) column ≡ true
here asked column k none low found = ap (λ l. is_asked l column) (drop-cons asked k none low) ∙ rw found refl

later : (asked : List Range) (column k : ℕ) (none : Range) → k < length asked → is_within column (get_or asked k none) ≡ false → is_asked (drop k asked) column ≡ is_asked (drop (k + 1) asked) column
later asked column k none low other =
    let next : suc k ≡ k + 1 = omega arith in
    ap (λ l. is_asked l column) (drop-cons asked k none low) ∙ rw other refl ∙ ap (λ n. is_asked (drop n asked) column) next

pub returns-then-is_within : goal.returns-then-is_within
returns-then-is_within c =
    sym (c.spans.invariant ∙ here c.args.asked.now c.args.column c.spans.at (record { from = 0; to = 0 }) c.spans-test.true (sym c.is_within.ensures ∙ c.if-is_within.true))

pub spans-preserved : goal.spans-preserved
spans-preserved c = c.spans.invariant ∙ later c.args.asked.now c.args.column c.spans.at (record { from = 0; to = 0 }) c.spans-test.true (sym c.is_within.ensures ∙ c.if-is_within.false)

pub returns : goal.returns
returns c =
    let high : length c.args.asked.now ≤ c.spans.at = omega arith in
    sym (c.spans.invariant ∙ ap (λ l. is_asked l c.args.column) (drop_all c.spans.at c.args.asked.now high))
