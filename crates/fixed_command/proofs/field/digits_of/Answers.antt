use Rattle.std.proofs.Common.{◌∙◌, sym, arith}
use Rattle.fixed_command.proofs.FieldLemmas.{last_digit, no_digits, one_digit}
use Rattle.fixed_command.proofs.field.digits_of.Goals as goal

pub returns-then-not-is_digit-clause-count : goal.returns-then-not-is_digit-clause-count
returns-then-not-is_digit-clause-count c =
    let none = no_digits c.args.is_hex c.args.bytes.now c.bytes.at c.bytes-test.true (sym c.is_digit.ensures ∙ c.if-not-is_digit.true) in
    omega (arith, c.bytes.invariant, none)

pub bytes-preserved : goal.bytes-preserved
bytes-preserved c =
    let one = one_digit c.args.is_hex c.args.bytes.now c.bytes.at c.bytes-test.true (sym c.is_digit.ensures ∙ c.if-not-is_digit.false) in
    omega (arith, c.bytes.invariant, one)

pub returns-clause-count : goal.returns-clause-count
returns-clause-count c =
    let last = last_digit c.args.is_hex c.args.bytes.now c.bytes.at c.bytes-test.false in
    omega (arith, c.bytes.invariant, last, c.bytes.auto.at-end, c.bytes-test.false)
