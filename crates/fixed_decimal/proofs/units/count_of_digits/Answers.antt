use Rattle.std.proofs.Common.{◌≡◌, ◌-◌, ◌*◌, ◌^◌, ◌∙◌, ap, length, drop}
use Rattle.std.specs.Int.Digits.{number_from_digits}
use Rattle.fixed_bits.specs.LostFractions.{IsLostFraction}
use Rattle.fixed_decimal.proofs.UnitsLemmas.{counted_digits, part_room}
use Rattle.fixed_numeral.proofs.Public.{below_split, trailing_back}
use Rattle.fixed_decimal.proofs.units.count_of_digits.Goals as goal

pub with_zeros-part-requires-clause-room : goal.with_zeros-part-requires-clause-room
with_zeros-part-requires-clause-room g c = rw c.missing_digits.ensures (part_room c.args.fraction.now c.args.n c.take_number-number.result.0 c.requires.n c.requires.fraction_digits c.take_number-number.ensures.number c.take_number-number.ensures.below)

pub lost_by_digits-lost-requires-clause-digits : goal.lost_by_digits-lost-requires-clause-digits
lost_by_digits-lost-requires-clause-digits g c = rw c.take_number-number.ensures.rest (below_split 10 c.args.fraction.now c.args.n c.requires.fraction_digits).1

pub lost_by_digits-lost-requires-clause-trailing : goal.lost_by_digits-lost-requires-clause-trailing
lost_by_digits-lost-requires-clause-trailing g c = rw c.take_number-number.ensures.rest (trailing_back c.args.fraction.now c.args.n c.requires.trailing)

pub returns-clause-counted : goal.returns-clause-counted
returns-clause-counted g c =
    let part : c.with_zeros-part.result ≡ c.take_number-number.result.0 * 10 ^ (c.args.n - length c.args.fraction.now) = c.with_zeros-part.ensures ∙ ap (λ i. c.take_number-number.result.0 * 10 ^ i) c.missing_digits.ensures in
    let lost : IsLostFraction c.lost_by_digits-lost.result (number_from_digits 10 (drop c.args.n c.args.fraction.now)) (10 ^ length (drop c.args.n c.args.fraction.now)) = rw c.take_number-number.ensures.rest at c.lost_by_digits-lost.ensures.lost in
    counted_digits c.args.whole.now c.args.fraction.now c.args.n c.low_word-low.result.0 c.take_number-number.result.0 c.with_zeros-part.result _ c.low_word-low.ensures.low c.low_word-low.ensures.over c.take_number-number.ensures.number part c.raised.ensures.sum lost
