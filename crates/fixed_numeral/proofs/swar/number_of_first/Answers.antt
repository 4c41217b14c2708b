use Rattle.std.proofs.Common.{◌≡◌, ◌-◌, ◌*◌, ◌%◌, ◌^◌, ◌<◌, ◌++◌, length, take, ap, sym, ◌∙◌, arith, refl}
use Rattle.std.proofs.lemmas.List.{length-take, take-take}
use Rattle.std.specs.Int.Digits.{number_from_digits}
use Rattle.std.specs.Simd.Lanes.{number_l}
use Rattle.fixed_numeral.specs.Digits.{digits_in, zeros}
use Rattle.fixed_numeral.proofs.DigitLemmas.{digits_in_none, all_counted, split_prefix}
use Rattle.fixed_numeral.proofs.LaneLemmas.{few_lanes, few_below, few_count, wider}
use Rattle.fixed_numeral.proofs.PlaceLemmas.{zeros_prefix}
use Rattle.fixed_numeral.proofs.StripLemmas.{eight_stand}
use Rattle.fixed_numeral.proofs.swar.number_of_first.Goals as goal

pub returns-then-count-eq0 : goal.returns-then-count-eq0
returns-then-count-eq0 c = rw (c.if-count-eq0.true, digits_in_none) refl

pub returns : goal.returns
returns c =
    let stand = eight_stand c.args.base c.args.bytes.now 0 c.requires.plain c.requires.digits c.requires.long in
    let long : length (take 8 c.args.bytes.now) ≡ 8 = omega (arith, length-take 8 c.args.bytes.now, c.requires.long) in
    let values = c.digit_values.ensures (take 8 c.args.bytes.now) long (omega (arith, stand.count, long)) c.word_at.ensures in
    let some : 0 < c.args.count = omega (arith, c.if-count-eq0.false) in
    let lanes = few_lanes c.args.count (digits_in (take 8 c.args.bytes.now)) some c.requires.few stand.count (wider c.args.base 256 _ (omega (arith, c.requires.most)) stand.below) in
    let moved : c.digit_values.result * 2 ^ (64 - 8 * c.args.count) % 2 ^ 64 ≡ number_l 256 (zeros (8 - c.args.count) ++ take c.args.count (digits_in (take 8 c.args.bytes.now))) = ap (λ x. x * 2 ^ (64 - 8 * c.args.count) % 2 ^ 64) values ∙ lanes in
    let whole = split_prefix c.args.bytes.now 8 8 (all_counted c.args.bytes.now 8 c.requires.plain c.requires.long) in
    let prefix = split_prefix c.args.bytes.now c.args.count c.args.count (all_counted c.args.bytes.now c.args.count c.requires.plain (omega (arith, c.requires.few, c.requires.long))) in
    let same : take c.args.count (digits_in (take 8 c.args.bytes.now)) ≡ digits_in (take c.args.count c.args.bytes.now) = ap (take c.args.count) whole ∙ take-take c.args.count 8 (digits_in c.args.bytes.now) (omega (arith, c.requires.few)) ∙ sym prefix in
    c.number_of_eight.ensures.number (zeros (8 - c.args.count) ++ take c.args.count (digits_in (take 8 c.args.bytes.now))) (few_count c.args.count _ c.requires.few stand.count) (few_below c.args.base c.args.count _ c.requires.least stand.below) moved ∙ zeros_prefix c.args.base (8 - c.args.count) _ ∙ ap (number_from_digits c.args.base) same
