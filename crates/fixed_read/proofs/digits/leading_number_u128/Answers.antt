use Rattle.std.proofs.Common.{◌≡◌, [], ◌+◌, ◌*◌, ◌^◌, ◌∙◌, drop, ap, arith}
use Rattle.std.proofs.Math.Seq.{drop-drop}
use Rattle.std.proofs.lemmas.List.{drop_all}
use Rattle.fixed_numeral.proofs.Public.{trailing_back}
use Rattle.fixed_read.proofs.DigitLemmas.{led_join, led_zeros, not_longer}
use Rattle.fixed_read.proofs.digits.leading_number_u128.Goals as goal

pub leading_number-low-requires-clause-trailing : goal.leading_number-low-requires-clause-trailing
leading_number-low-requires-clause-trailing g c =
    let count : c.from.result ≡ c.args.prefix = c.from.ensures in
    rw (rw count at c.split_at-prefix.ensures.back) (trailing_back c.args.view.now c.args.prefix c.requires.trailing)

pub returns-then-is_longer-clause-led : goal.returns-then-is_longer-clause-led
returns-then-is_longer-clause-led g c =
    let rest : c.split_at-prefix.result.1 ≡ drop c.args.prefix c.args.view.now = rw c.from.ensures at c.split_at-prefix.ensures.back in
    let block : c.high_low.result ≡ c.leading_number-high.result * c.args.base ^ c.args.back + c.leading_number-low.result = c.high_low.ensures ∙ ap (λ x. c.leading_number-high.result * x + c.leading_number-low.result) c.requires.power in
    let later : drop c.args.back (drop c.args.prefix c.args.view.now) ≡ drop (c.args.prefix + c.args.back) c.args.view.now = drop-drop c.args.back c.args.prefix c.args.view.now in
    rw block (rw later at (led_join c.args.base c.args.view.now (drop c.args.prefix c.args.view.now) (drop c.args.back (drop c.args.prefix c.args.view.now)) c.leading_number-high.result c.leading_number-low.result c.args.prefix c.args.back (omega (arith, c.requires.least)) c.leading_number-high.ensures.led (rw rest at c.leading_number-low.ensures.led)))

pub returns-else-is_longer-clause-led : goal.returns-else-is_longer-clause-led
returns-else-is_longer-clause-led g c =
    let few = not_longer c.args.view.now c.args.prefix c.is_longer.result c.is_longer.ensures c.if-is_longer.false in
    let none : drop c.args.prefix c.args.view.now ≡ [] = drop_all c.args.prefix c.args.view.now few in
    let block : c.high_low-else-is_longer.result ≡ c.leading_number-high.result * c.args.base ^ c.args.back = c.high_low-else-is_longer.ensures ∙ ap (λ x. c.leading_number-high.result * x + 0) c.requires.power ∙ omega arith in
    let all : drop (c.args.prefix + c.args.back) c.args.view.now ≡ [] = drop_all (c.args.prefix + c.args.back) c.args.view.now (omega (arith, few)) in
    rw (block, all) (rw none at (led_zeros c.args.base c.args.view.now (drop c.args.prefix c.args.view.now) c.leading_number-high.result c.args.prefix c.args.back (omega (arith, c.requires.least)) c.leading_number-high.ensures.led none))
