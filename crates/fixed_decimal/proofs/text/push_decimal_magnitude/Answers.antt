use Rattle.std.proofs.Common.{rules, ◌≡◌, ◌/◌, ◌^◌, ◌<◌, ◌++◌, ◌∙◌, ap, false}
use Rattle.std.specs.Fmt.{sign_text}
use Rattle.fixed_write.specs.Texts.{fraction_part}
use Rattle.fixed_decimal.proofs.TextLemmas.{text_made, text_short}
use Rattle.fixed_decimal.proofs.text.push_decimal_magnitude.Goals as goal

pub returns-clause-appended : goal.returns-clause-appended
returns-clause-appended g c =
    let sign : c.push_sign.new.out ≡ c.args.out.now ++ sign_text c.args.negative = search (rules, c.push_sign.ensures) in
    let whole : c.args.magnitude / c.power.result ≡ c.args.magnitude / 10 ^ c.args.format = ap (λ d. c.args.magnitude / d) (c.power.ensures.power ∙ ap (λ i. 10 ^ i) c.places-places.ensures.places) in
    let fraction : c.push_fraction.new.out ≡ c.push_signed_integer.new.out ++ fraction_part 10 false c.args.format c.args.magnitude = rw c.places-places.ensures.places at c.push_fraction.ensures in
    text_made c.args.negative c.args.format c.args.magnitude _ c.args.out.now c.push_sign.new.out c.push_signed_integer.new.out c.push_fraction.new.out (search rules) whole sign c.push_signed_integer.ensures.appended fraction

pub returns-clause-short : goal.returns-clause-short
returns-clause-short g c =
    let fits : c.args.magnitude < 2 ^ 64 = search rules in
    text_short c.args.negative c.args.magnitude c.args.format fits c.places-places.ensures.few
