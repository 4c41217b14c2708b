use Rattle.std.proofs.Common.{◌≡◌, ◌≤◌, ◌==◌, arith, length, rules, slice_index, sym, ◌∙◌, true, false}
use Rattle.std.proofs.lemmas.List.{drop_all, take_rest}
use Rattle.fixed_columns.specs.Rows.{after_spaces}
use Rattle.fixed_columns.proofs.SpaceLemmas.{spaces_step, spaces_stop}
use Rattle.fixed_columns.proofs.row.without_leading_spaces.Goals as goal

pub loop-i-preserved : goal.loop-i-preserved
loop-i-preserved c =
    let d : (slice_index c.args.line.now c.loop-i.i == 32) ≡ true = search rules in
    c.loop-i.invariant ∙ spaces_step c.args.line.now c.loop-i.i c.loop-i-test.true d

pub returns-then-line-i-ne32 : goal.returns-then-line-i-ne32
returns-then-line-i-ne32 c =
    let d : (slice_index c.args.line.now c.loop-i.i == 32) ≡ false = search rules in
    take_rest c.args.line.now c.loop-i.i ∙ sym (c.loop-i.invariant ∙ spaces_stop c.args.line.now c.loop-i.i c.loop-i-test.true d)

pub returns : goal.returns
unfolding after_spaces
returns c =
    let done : length c.args.line.now ≤ c.loop-i.i = omega arith in
    let none = rw (drop_all c.loop-i.i c.args.line.now done) at c.loop-i.invariant in
    take_rest c.args.line.now (length c.args.line.now) ∙ drop_all (length c.args.line.now) c.args.line.now (omega arith) ∙ sym none
