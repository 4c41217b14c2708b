use Rattle.std.proofs.Common.{◌≤◌, ◌+◌, arith}
use Rattle.fixed_numeral.specs.Numeral.{base}
use Rattle.fixed_numeral.proofs.MagnitudeLemmas.{base_small, base_least}
use Rattle.fixed_numeral.proofs.SegmentLemmas.{ending_short, few_digits, sign_place, mantissa_place}
use Rattle.fixed_numeral.proofs.ending.ending_numeral.Goals as goal

pub mantissa_at-requires-clause-least : goal.mantissa_at-requires-clause-least
mantissa_at-requires-clause-least c = omega (arith, c.requires.least, sign_place c.args.text.now c.args.from c.sign_at-negative.result.1 c.sign_at-negative.result.0 c.requires.place c.sign_at-negative.ensures)

pub mantissa_at-requires-clause-late : goal.mantissa_at-requires-clause-late
mantissa_at-requires-clause-late c = omega (arith, c.requires.late, sign_place c.args.text.now c.args.from c.sign_at-negative.result.1 c.sign_at-negative.result.0 c.requires.place c.sign_at-negative.ensures)

pub power_at-requires-clause-late : goal.power_at-requires-clause-late
power_at-requires-clause-late c = omega (arith, c.requires.late, sign_place c.args.text.now c.args.from c.sign_at-negative.result.1 c.sign_at-negative.result.0 c.requires.place c.sign_at-negative.ensures, mantissa_place (base c.args.radix) c.args.text.now c.sign_at-negative.result.1 c.in_ok-mantissa.mantissa.end c.in_ok-mantissa.mantissa.whole c.in_ok-mantissa.mantissa.fraction c.in_ok-mantissa.mantissa.places c.sign_at-negative.ensures.within c.in_ok-mantissa.ensures)

pub returns-clause-short : goal.returns-clause-short
returns-clause-short c =
    let late : c.in_ok-mantissa.mantissa.end ≤ c.sign_at-negative.result.1 + 16 = omega (arith, c.requires.late, c.in_ok-mantissa.ensures.within, sign_place c.args.text.now c.args.from c.sign_at-negative.result.1 c.sign_at-negative.result.0 c.requires.place c.sign_at-negative.ensures) in
    let few = few_digits (base c.args.radix) c.args.text.now c.sign_at-negative.result.1 c.in_ok-mantissa.mantissa.end c.in_ok-mantissa.mantissa.whole c.in_ok-mantissa.mantissa.fraction c.in_ok-mantissa.mantissa.places (base_least c.args.radix) (base_small c.args.radix) c.sign_at-negative.ensures.within c.in_ok-mantissa.ensures late in
    rw (c.numeral_of.ensures.negative, c.numeral_of.ensures.whole, c.numeral_of.ensures.fraction, c.numeral_of.ensures.places, c.numeral_of.ensures.exponent, c.numeral_of.ensures.by_two) (ending_short c.args.radix c.args.text.now c.args.from c.sign_at-negative.result.1 c.in_ok-mantissa.mantissa.end c.in_ok-mantissa.mantissa.whole c.in_ok-mantissa.mantissa.fraction c.in_ok-mantissa.mantissa.places c.sign_at-negative.result.0 c.in_ok-power.power.by_two c.in_ok-power.power.exponent c.requires.place c.sign_at-negative.ensures c.in_ok-mantissa.ensures c.in_ok-power.ensures few.1 (omega (arith, few.0.few)))

pub returns-clause-few : goal.returns-clause-few
returns-clause-few c =
    let late : c.in_ok-mantissa.mantissa.end ≤ c.sign_at-negative.result.1 + 16 = omega (arith, c.requires.late, c.in_ok-mantissa.ensures.within, sign_place c.args.text.now c.args.from c.sign_at-negative.result.1 c.sign_at-negative.result.0 c.requires.place c.sign_at-negative.ensures) in
    let few = few_digits (base c.args.radix) c.args.text.now c.sign_at-negative.result.1 c.in_ok-mantissa.mantissa.end c.in_ok-mantissa.mantissa.whole c.in_ok-mantissa.mantissa.fraction c.in_ok-mantissa.mantissa.places (base_least c.args.radix) (base_small c.args.radix) c.sign_at-negative.ensures.within c.in_ok-mantissa.ensures late in
    rw (c.numeral_of.ensures.whole, c.numeral_of.ensures.fraction, c.numeral_of.ensures.places) few.0
