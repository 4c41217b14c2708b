use Rattle.std.proofs.Common.{ap, ◌∙◌, ◌≡◌, sym}
use Rattle.fixed_numeral.specs.Literal.{prefix_of, radix_by, rest_by, literal_radix, literal_rest}
use Rattle.fixed_numeral.proofs.ShortLiteralLemmas.{literal_numbers, literal_of_numeral}
use Rattle.fixed_numeral.proofs.literal.short_literal.Goals as goal

pub returns-in-Some-clause-literal : goal.returns-in-Some-clause-literal
returns-in-Some-clause-literal g c =
    let er : c.after_prefix-radix.result.0 ≡ literal_radix c.args.signed c.args.bytes.now = c.after_prefix-radix.ensures.radix ∙ ap (λ bs. radix_by (prefix_of bs)) c.after_sign-negative.ensures.rest in
    let eb : c.after_prefix-radix.result.1.now ≡ literal_rest c.args.signed c.args.bytes.now = c.after_prefix-radix.ensures.rest ∙ ap (λ bs. rest_by (prefix_of bs) bs) c.after_sign-negative.ensures.rest in
    literal_of_numeral c.args.signed c.args.bytes.now _ _ er eb c.in-Some.ensures.numeral (sym c.begins_signed.ensures ∙ c.if-begins_signed.false)

pub returns-in-Some-clause-parts : goal.returns-in-Some-clause-parts
returns-in-Some-clause-parts g c =
    let er : c.after_prefix-radix.result.0 ≡ literal_radix c.args.signed c.args.bytes.now = c.after_prefix-radix.ensures.radix ∙ ap (λ bs. radix_by (prefix_of bs)) c.after_sign-negative.ensures.rest in
    let eb : c.after_prefix-radix.result.1.now ≡ literal_rest c.args.signed c.args.bytes.now = c.after_prefix-radix.ensures.rest ∙ ap (λ bs. rest_by (prefix_of bs) bs) c.after_sign-negative.ensures.rest in
    let found = c.in-Some.found in
    let same = c.with_sign.ensures in
    rw (same.negative, same.whole, same.fraction, same.places, same.exponent, same.by_two) (literal_numbers c.args.signed c.args.bytes.now _ _ found.negative c.after_sign-negative.result.0 found.whole found.fraction found.places found.exponent found.scales_by_two er eb c.in-Some.ensures.numeral c.after_sign-negative.ensures.sign c.in-Some.ensures.parts)
