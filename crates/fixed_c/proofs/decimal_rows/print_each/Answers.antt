use Rattle.std.proofs.Common.{rules, FitsSigned, ◌≢◌, ◌<◌, ◌≤◌, ◌+◌, ◌∙◌, ℕ, pos, sym, ap, subst, length, take, get_or, arith, List}
use Rattle.std.specs.Int.{w64}
use Rattle.std.proofs.lemmas.Int.{to_z-of_z}
use Rattle.std.proofs.lemmas.List.{take_all}
use Rattle.fixed_c.specs.Decimals.{PrintsDecimal}
use Rattle.fixed_c.specs.Rows.{refused_of, row_at}
use Rattle.fixed_c.proofs.RowLemmas.{refused_next, row_fits, text_more}
use Rattle.fixed_c.proofs.decimal_rows.print_each.Goals as goal

pub print_at-code-requires : goal.print_at-code-requires
print_at-code-requires c =
    let fits = row_fits c.loop-i.i c.args.size (length c.args.codes.now) c.loop-i-test.true in
    let all = c.requires.bytes in
    omega arith

pub loop-i-preserved : goal.loop-i-preserved
loop-i-preserved c =
    let less : c.loop-i.i < length c.loop-i.codes = omega arith in
    let fits : FitsSigned w64 c.bits_at-given.result = search rules in
    let printed : PrintsDecimal c.args.places (get_or c.args.bits.now c.loop-i.i (pos 0)) (row_at c.loop-i.rows c.args.size c.loop-i.i) (row_at c.print_at-code.new.rows c.args.size c.loop-i.i) c.print_at-code.result =
    rw (to_z-of_z w64 c.bits_at-given.result fits, c.bits_at-given.ensures) at c.print_at-code.ensures.printed in
    record {
      each = text_more (λ (k : ℕ) (row : List ℕ) (code : ℕ). PrintsDecimal c.args.places (get_or c.args.bits.now k (pos 0)) (row_at c.args.rows.now c.args.size k) row code)
          (λ (k : ℕ). row_at c.loop-i.rows c.args.size k) (λ (k : ℕ). row_at c.print_at-code.new.rows c.args.size k) c.loop-i.codes c.loop-i.i c.print_at-code.result less c.loop-i.invariant.each c.print_at-code.ensures.others
          (subst (λ (old : List ℕ). PrintsDecimal c.args.places (get_or c.args.bits.now c.loop-i.i (pos 0)) old (row_at c.print_at-code.new.rows c.args.size c.loop-i.i) c.print_at-code.result) (c.loop-i.invariant.rest c.loop-i.i (omega arith)) printed);
      rest = λ k h. let ne : k ≢ c.loop-i.i = omega arith in let past : c.loop-i.i ≤ k = omega arith in c.print_at-code.ensures.others k ne ∙ c.loop-i.invariant.rest k past;
      counted = ap (λ x. x + c.tally-refused.result) c.loop-i.invariant.counted ∙ ap (λ x. refused_of (take c.loop-i.i c.loop-i.codes) + x) c.tally-refused.ensures.value
          ∙ sym (refused_next c.loop-i.codes c.loop-i.i c.print_at-code.result less);
      few = omega (arith, c.tally-refused.ensures.most, c.loop-i.invariant.few);
    }

pub returns : goal.returns
returns c =
    let all : length c.loop-i.codes ≤ c.loop-i.i = omega arith in
    record {
      each = λ k h. let lt : k < c.loop-i.i = omega arith in c.loop-i.invariant.each k lt;
      counted = c.loop-i.invariant.counted ∙ ap refused_of (take_all c.loop-i.i c.loop-i.codes all);
    }
