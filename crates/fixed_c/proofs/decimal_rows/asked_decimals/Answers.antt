use Rattle.std.proofs.Common.{◌<◌, ◌≤◌, ◌+◌, ◌∙◌, sym, ap, length, take, arith}
use Rattle.std.proofs.lemmas.List.{take_all}
use Rattle.fixed_c.specs.Inner.Decimals.{ReadsDecimalAsked}
use Rattle.fixed_c.specs.Rows.{refused_of}
use Rattle.fixed_c.proofs.RowLemmas.{refused_next, row_fits, row_more}
use Rattle.fixed_c.proofs.decimal_rows.asked_decimals.Goals as goal

pub decimal_row-code-requires-clause-row : goal.decimal_row-code-requires-clause-row
decimal_row-code-requires-clause-row c =
    let fits = row_fits c.loop-i.i c.args.size (length c.args.codes.now) c.loop-i-test.true in
    let all = c.requires.rows.bytes in
    omega arith

pub loop-i-preserved : goal.loop-i-preserved
loop-i-preserved c =
    let less : c.loop-i.i < length c.loop-i.codes = omega arith in
    let same = c.requires.rows.same in
    let lt : c.loop-i.i < length c.loop-i.out = omega arith in
    record {
      each = row_more (ReadsDecimalAsked c.args.rows.now c.args.size c.args.asked.now) c.loop-i.out c.loop-i.codes c.loop-i.i c.decimal_row-code.result.0 c.decimal_row-code.result.1 lt less c.loop-i.invariant.each c.decimal_row-code.ensures;
      counted = ap (λ x. x + c.tally-refused.result) c.loop-i.invariant.counted ∙ ap (λ x. refused_of (take c.loop-i.i c.loop-i.codes) + x) c.tally-refused.ensures.value
          ∙ sym (refused_next c.loop-i.codes c.loop-i.i c.decimal_row-code.result.1 less);
      few = omega (arith, c.tally-refused.ensures.most, c.loop-i.invariant.few);
    }

pub returns : goal.returns
returns c =
    let all : length c.loop-i.codes ≤ c.loop-i.i = omega arith in
    record {
      each = λ d k h. let lt : k < c.loop-i.i = omega arith in c.loop-i.invariant.each d k lt;
      counted = c.loop-i.invariant.counted ∙ ap refused_of (take_all c.loop-i.i c.loop-i.codes all);
    }
