use Rattle.std.proofs.Common.{◌≡◌, ℕ, ◌≤◌, ◌+◌, get_or, arith}
use Rattle.std.specs.Char.{digit_value}
use Rattle.std.proofs.lemmas.Str.Parse.{digit_at}
use Rattle.std.proofs.lemmas.Str.{digit_value_digit}
use Rattle.std.proofs.lemmas.Int.Digits.{digits_value_more, digits_more}
use Rattle.fixed_respell.proofs.NumberLemmas.{room}
use Rattle.fixed_respell.proofs.decimal.digits_number.Goals as goal

pub returns-then-not-is_ascii_digit : goal.returns-then-not-is_ascii_digit
returns-then-not-is_ascii_digit c digits =
    let r = digit_at c.args.digits.now c.loop-b.b-index digits c.loop-b-test.true in
    grind (arith, r.0, r.1, c.if-not-is_ascii_digit.ensures.value)

pub overflow_mul-number : goal.overflow_mul-number
overflow_mul-number c =
    let inv = c.loop-b.invariant in
    let r = room c.args.digits.now c.loop-b.b-index c.requires c.loop-b-test.true inv.0 in
    omega (arith, r, inv.1)

pub overflow_add-number : goal.overflow_add-number
overflow_add-number c =
    let inv = c.loop-b.invariant in
    let r = room c.args.digits.now c.loop-b.b-index c.requires c.loop-b-test.true inv.0 in
    omega (arith, r, inv.1)

pub loop-b-preserved : goal.loop-b-preserved
loop-b-preserved c =
    let inv = c.loop-b.invariant in
    let b : ℕ = get_or c.args.digits.now c.loop-b.b-index 0 in
    let low : 48 ≤ b = grind (arith, c.if-not-is_ascii_digit.ensures.value) in
    let high : b ≤ 57 = grind (arith, c.if-not-is_ascii_digit.ensures.value) in
    let worth : digit_value b + 48 ≡ b = digit_value_digit b (low, high) in (
      digits_more 10 c.args.digits.now c.loop-b.b-index c.loop-b-test.true inv.0 (omega arith),
      omega (arith, inv.1, c.from.ensures, digits_value_more 10 c.args.digits.now c.loop-b.b-index c.loop-b-test.true),
    )
