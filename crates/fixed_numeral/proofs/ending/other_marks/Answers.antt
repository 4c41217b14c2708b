use Rattle.std.proofs.Common.{◌+◌, ◌-◌, length, get_or, arith}
use Rattle.fixed_numeral.specs.Numeral.{base}
use Rattle.fixed_numeral.proofs.MagnitudeLemmas.{base_small}
use Rattle.fixed_numeral.proofs.MarkLemmas.{digit_by_marks}
use Rattle.fixed_numeral.proofs.ending.other_marks.Goals as goal

pub returns : goal.returns
returns c = record {
  digit = λ k l z. digit_by_marks (base c.args.radix) c.min-digits.result (get_or c.args.text.now (length c.args.text.now - 16 + k) 0) _ _ _ k (omega (arith, c.min-digits.ensures, c.base-base.ensures, base_small c.args.radix)) (base_small c.args.radix)
      (λ t. c.marks_outside-no_digit.ensures k l t)
      (λ t. let w = c.marks_outside-no_capital.ensures k l t in (w.0, omega (arith, w.1, c.base-base.ensures, base_small c.args.radix)))
      (λ t. let w = c.marks_outside-no_small.ensures k l t in (w.0, omega (arith, w.1, c.base-base.ensures, base_small c.args.radix)))
      z;
}
