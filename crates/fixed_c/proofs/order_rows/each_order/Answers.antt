use Rattle.std.proofs.Common.{◌<◌, ◌≤◌, ◌+◌, ◌∙◌, sym, ap, length, take, arith, rules, FitsSigned}
use Rattle.std.specs.Int.{w32}
use Rattle.std.proofs.lemmas.Int.{to_z-of_z}
use Rattle.std.proofs.lemmas.List.{take_all}
use Rattle.fixed_c.specs.Items.{ComparesRow}
use Rattle.fixed_c.specs.Numbers.{format_of}
use Rattle.fixed_c.specs.Rows.{refused_of}
use Rattle.fixed_c.proofs.ItemLemmas.{item_more}
use Rattle.fixed_c.proofs.RowLemmas.{refused_next}
use Rattle.fixed_c.proofs.order_rows.each_order.Goals as goal

pub loop-i-preserved : goal.loop-i-preserved
loop-i-preserved c =
    let less : c.loop-i.i < length c.loop-i.codes = omega arith in
    let fits : FitsSigned w32 c.order_row-order.result.0 = search rules in
    let same = c.requires.same in
    let lt : c.loop-i.i < length c.loop-i.orders = omega arith in
    record {
      each = rw (to_z-of_z w32 c.order_row-order.result.0 fits) (item_more (ComparesRow c.args.a.now (format_of c.args.f.is_signed c.args.f.width c.args.f.frac) c.args.b.now (format_of c.args.g.is_signed c.args.g.width c.args.g.frac)) c.loop-i.orders c.loop-i.codes c.loop-i.i c.order_row-order.result.0 c.order_row-order.result.1 lt less c.loop-i.invariant.each c.order_row-order.ensures);
      counted = ap (λ x. x + c.tally-refused.result) c.loop-i.invariant.counted ∙ ap (λ x. refused_of (take c.loop-i.i c.loop-i.codes) + x) c.tally-refused.ensures.value
          ∙ sym (refused_next c.loop-i.codes c.loop-i.i c.order_row-order.result.1 less);
      few = omega (arith, c.tally-refused.ensures.most, c.loop-i.invariant.few);
    }

pub returns : goal.returns
returns c =
    let all : length c.loop-i.codes ≤ c.loop-i.i = omega arith in
    record {
      each = λ d k h. let lt : k < c.loop-i.i = omega arith in c.loop-i.invariant.each d k lt;
      counted = c.loop-i.invariant.counted ∙ ap refused_of (take_all c.loop-i.i c.loop-i.codes all);
    }
