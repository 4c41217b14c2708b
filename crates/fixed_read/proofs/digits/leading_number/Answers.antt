use Rattle.std.proofs.Common.{drop, refl, arith}
use Rattle.fixed_read.proofs.DigitLemmas.{led, led_nothing, led_room}
use Rattle.fixed_read.proofs.digits.leading_number.Goals as goal

pub with_zeros-requires-clause-room : goal.with_zeros-requires-clause-room
with_zeros-requires-clause-room g c =
    let room = led_room c.args.base c.args.view.now c.first_number-number.result c.args.count c.missing_digits.result (omega (arith, c.requires.least)) c.requires.digits c.first_number-number.ensures.number c.first_number-number.ensures.below c.missing_digits.ensures in
    omega (arith, room, c.requires.room)

pub returns-clause-led : goal.returns-clause-led
returns-clause-led g c = led c.args.base c.args.view.now (drop c.args.count c.args.view.now) c.first_number-number.result c.args.count c.missing_digits.result c.with_zeros.result (omega (arith, c.requires.least)) c.requires.digits c.requires.trailing c.first_number-number.ensures.number c.first_number-number.ensures.below refl c.missing_digits.ensures c.with_zeros.ensures

pub returns-then-is_empty-clause-led : goal.returns-then-is_empty-clause-led
returns-then-is_empty-clause-led g c = led_nothing c.args.base c.args.view.now c.args.count (omega (arith, c.requires.least)) c.requires.digits c.requires.trailing (c.is_empty.ensures.0 c.if-is_empty.true)
