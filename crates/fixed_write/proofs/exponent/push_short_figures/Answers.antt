use Rattle.std.proofs.Common.{arith, rules, ap, ◌∙◌, ◌≡◌, ◌+◌, ◌*◌, ◌^◌, false, length, pos, ◌-ℤ◌, to_z, of_z, w32}
use Rattle.fixed_write.specs.Inner.Figures.{HasShortFigures}
use Rattle.fixed_write.specs.Texts.{whole_digits}
use Rattle.fixed_write.proofs.IntegerLemmas.{word_digits}
use Rattle.fixed_write.proofs.LeadingLemmas.{whole_nonempty}
use Rattle.fixed_write.proofs.FigureLemmas.{short_whole, short_fraction, stripped_some, stripped_word, places_short}
use Rattle.fixed_write.proofs.exponent.push_short_figures.Goals as goal

pub push_whole-requires : goal.push_whole-requires
push_whole-requires c =
    (search rules, omega (arith, ap length c.requires.empty, word_digits c.without_zeros-figures.result.0 (stripped_word _ _ _ c.whole_of-whole.type_inv c.without_zeros-figures.ensures.number)))

pub returns-then-rest_of-eq0-clause-figures : goal.returns-then-rest_of-eq0-clause-figures
returns-then-rest_of-eq0-clause-figures c =
    let digits : c.push_whole.new.out ≡ whole_digits 10 false c.without_zeros-figures.result.0 = rw c.requires.empty at c.push_whole.ensures in
    let same : to_z w32 (of_z w32 c.exponent_of.result) ≡ c.exponent_of.result = search rules in
    let found : HasShortFigures c.args.magnitude c.args.frac c.push_whole.new.out c.exponent_of.result = short_whole _ _ _ _ c.without_zeros-figures.result.1 _ _ _ c.rest_of.ensures c.if-rest_of-eq0.true c.whole_of-whole.ensures (stripped_some _ c.without_zeros-figures.ensures.last) c.without_zeros-figures.ensures.number c.without_zeros-figures.ensures.last digits (places_short _ c.without_zeros-figures.result.1 1 _ _ c.exponent_of.ensures.value c.len.ensures.value) in
    rw same found

pub returns-then-rest_of-eq0-clause-some : goal.returns-then-rest_of-eq0-clause-some
returns-then-rest_of-eq0-clause-some c =
    let digits : c.push_whole.new.out ≡ whole_digits 10 false c.without_zeros-figures.result.0 = rw c.requires.empty at c.push_whole.ensures in
    rw digits (whole_nonempty c.without_zeros-figures.result.0)

pub returns-else-rest_of-eq0-clause-figures : goal.returns-else-rest_of-eq0-clause-figures
returns-else-rest_of-eq0-clause-figures c =
    let same : to_z w32 (of_z w32 c.exponent_of-else-rest_of-eq0.result) ≡ c.exponent_of-else-rest_of-eq0.result = search rules in
    let digits = rw c.whole_of-whole.ensures at c.push_parts.ensures in
    let found : HasShortFigures c.args.magnitude c.args.frac c.push_parts.new.out c.exponent_of-else-rest_of-eq0.result = short_fraction _ _ _ _ _ _ _ c.fraction_of-fraction.ensures digits (places_short _ 0 (c.fraction_of-fraction.result.places + 2) _ _ c.exponent_of-else-rest_of-eq0.ensures.value c.len-else-rest_of-eq0.ensures.value ∙ ap (λ n. pos n -ℤ pos (c.fraction_of-fraction.result.places + 2)) (let e : length c.push_parts.new.out + 0 ≡ length c.push_parts.new.out = omega arith in e)) in
    rw same found

pub returns-else-rest_of-eq0-clause-some : goal.returns-else-rest_of-eq0-clause-some
returns-else-rest_of-eq0-clause-some c =
    rw c.push_parts.ensures (whole_nonempty (c.whole_of-whole.result * 10 ^ (c.fraction_of-fraction.result.places + 1) + (c.fraction_of-fraction.result.number * 10 + c.fraction_of-fraction.result.digit)))
