use Rattle.std.proofs.Common.{◌<◌, ◌≤◌, ◌+◌, ◌∙◌, sym, ap, length, take, arith}
use Rattle.std.proofs.lemmas.List.{take_all}
use Rattle.fixed_c.specs.Numbers.{format_of}
use Rattle.fixed_c.specs.Rows.{ConvertsRow, refused_of}
use Rattle.fixed_c.proofs.RowLemmas.{refused_next, row_more}
use Rattle.fixed_c.proofs.rows.convert_each.Goals as goal

pub loop-i-preserved : goal.loop-i-preserved
loop-i-preserved c =
    let less : c.loop-i.i < length c.loop-i.codes = omega arith in
    let same = c.requires.same in
    let lt : c.loop-i.i < length c.loop-i.out = omega arith in
    record {
      each = row_more (ConvertsRow c.args.bits.now (format_of c.args.conversion.source.is_signed c.args.conversion.source.width c.args.conversion.source.frac) (format_of c.args.conversion.target.is_signed c.args.conversion.target.width c.args.conversion.target.frac) c.args.conversion.policy c.args.conversion.mode) c.loop-i.out c.loop-i.codes c.loop-i.i c.convert_row-code.result.0 c.convert_row-code.result.1 lt less c.loop-i.invariant.each c.convert_row-code.ensures;
      counted = ap (λ x. x + c.tally-refused.result) c.loop-i.invariant.counted ∙ ap (λ x. refused_of (take c.loop-i.i c.loop-i.codes) + x) c.tally-refused.ensures.value
          ∙ sym (refused_next c.loop-i.codes c.loop-i.i c.convert_row-code.result.1 less);
      few = omega (arith, c.tally-refused.ensures.most, c.loop-i.invariant.few);
    }

pub returns : goal.returns
returns c =
    let all : length c.loop-i.codes ≤ c.loop-i.i = omega arith in
    record {
      each = λ d k h. let lt : k < c.loop-i.i = omega arith in c.loop-i.invariant.each d k lt;
      counted = c.loop-i.invariant.counted ∙ ap refused_of (take_all c.loop-i.i c.loop-i.codes all);
    }
