use Rattle.std.proofs.Common.{sym, ne_eqb}
use Rattle.fixed_numeral.proofs.ScanLemmas.{before_digit, before_separator, before_point, second_point, before_sign, second_sign, other_before}
use Rattle.fixed_numeral.proofs.scanner.mantissa_byte.Goals as goal

pub returns-then-is_digit_of : goal.returns-then-is_digit_of
returns-then-is_digit_of c = λ bs p h a. before_digit c.args.radix c.args.state c.after_digits.result c.args.b bs p h a c.requires.room (sym c.if-is_digit_of.ensures) c.after_digits.ensures.after

pub returns-then-is_separator : goal.returns-then-is_separator
returns-then-is_separator c = λ bs p h a. before_separator c.args.radix c.args.state c.args.b bs p.sign p.whole p.fraction p.exponent h a c.requires.separator (sym c.if-is_separator.ensures) c.is_two_separator.result c.is_two_separator.ensures

pub returns-then-state : goal.returns-then-state
returns-then-state c = λ bs p h a. second_point c.args.radix c.args.state c.args.b bs p.sign p.whole p.fraction p.exponent h a c.requires.separator c.if-b-eq46.true c.if-state.true

pub returns-else-state : goal.returns-else-state
returns-else-state c = λ bs p h a. before_point c.args.radix c.args.state c.args.b bs p.sign p.whole p.fraction p.exponent h a c.requires.separator c.requires.room c.if-b-eq46.true c.if-state.false

pub returns-then-state-2 : goal.returns-then-state-2
returns-then-state-2 c = λ bs p h a. before_sign c.args.radix c.args.state c.args.b bs p.sign p.whole p.fraction p.exponent h a c.requires.separator c.requires.room (sym c.if-is_sign.ensures) c.if-state-2.true

pub returns-else-state-2 : goal.returns-else-state-2
returns-else-state-2 c = λ bs p h a. second_sign c.args.radix c.args.state c.args.b bs p.sign p.whole p.fraction p.exponent h a c.requires.separator (sym c.if-is_digit_of.ensures) (sym c.if-is_separator.ensures) (sym c.if-is_sign.ensures) c.if-state-2.false

pub returns-else-is_sign : goal.returns-else-is_sign
returns-else-is_sign c = λ bs p h a. other_before c.args.radix c.args.state c.args.b bs p.sign p.whole p.fraction p.exponent h a c.requires.separator (sym c.if-is_digit_of.ensures) (sym c.if-is_separator.ensures) (ne_eqb _ _ c.if-b-eq46.false) (sym c.if-is_sign.ensures)
