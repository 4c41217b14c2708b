use Rattle.std.proofs.Common.{◌+◌, ◌*◌, sym, arith}
use Rattle.std.proofs.lemmas.Bool.{not-true, not-false}
use Rattle.fixed_numeral.proofs.ScanLemmas.{after_digit, exponent_overflow, after_sign, second_sign_after, second_separator, other_after}
use Rattle.fixed_numeral.proofs.scanner.exponent_byte.Goals as goal

pub returns-then-magnitude-max_magnitude : goal.returns-then-magnitude-max_magnitude
returns-then-magnitude-max_magnitude c = λ bs p h a. after_digit c.args.radix c.args.state c.args.b (c.args.state.magnitude * 10 + c.from.result) bs p.sign p.whole p.fraction p.exponent h a c.requires.separator (sym c.if-is_digit_of.ensures) (omega arith) (omega (arith, c.max_magnitude.ensures, c.if-magnitude-max_magnitude.true))

pub returns-else-magnitude-max_magnitude : goal.returns-else-magnitude-max_magnitude
returns-else-magnitude-max_magnitude c = λ bs p h a. exponent_overflow c.args.radix c.args.state c.args.b (c.args.state.magnitude * 10 + c.from.result) bs p.sign p.whole p.fraction p.exponent h a c.requires.separator (sym c.if-is_digit_of.ensures) (omega arith) (omega (arith, c.max_magnitude.ensures, c.if-magnitude-max_magnitude.false))

pub returns-else-not-state : goal.returns-else-not-state
returns-else-not-state c = λ bs p h a. after_sign c.args.radix c.args.state c.args.b bs p.sign p.whole p.fraction p.exponent h a c.requires.separator c.requires.room (sym c.if-is_sign.ensures) (not-false _ c.if-not-state.false)

pub returns-then-not-state : goal.returns-then-not-state
returns-then-not-state c = λ bs p h a. second_sign_after c.args.radix c.args.state c.args.b bs p.sign p.whole p.fraction p.exponent h a c.requires.separator (sym c.if-is_sign.ensures) (not-true _ c.if-not-state.true)

pub returns-then-is_separator : goal.returns-then-is_separator
returns-then-is_separator c = λ bs p h a. second_separator c.args.radix c.args.state c.args.b bs p.sign p.whole p.fraction p.exponent h a c.requires.separator (sym c.if-is_sign.ensures) (sym c.if-is_separator.ensures)

pub returns-else-is_separator : goal.returns-else-is_separator
returns-else-is_separator c = λ bs p h a. other_after c.args.radix c.args.state c.args.b bs p.sign p.whole p.fraction p.exponent h a c.requires.separator (sym c.if-is_digit_of.ensures) (sym c.if-is_sign.ensures) (sym c.if-is_separator.ensures)
