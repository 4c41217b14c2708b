use Rattle.std.proofs.Common.{◌≡◌, ap, ◌∙◌, arith, take, drop, length, length-take}
use Rattle.fixed_numeral.specs.Digits.{digits_in}
use Rattle.fixed_numeral.proofs.LiteralScanLemmas.{literal_fits, prefix_whole, prefix_fraction, prefix_fits, back_fits, parts_of_rest, signed_parts}
use Rattle.fixed_numeral.proofs.literal.rest_views.Goals as goal

pub split_at_digit-whole-requires : goal.split_at_digit-whole-requires
split_at_digit-whole-requires g c =
    rw (ap digits_in c.same_bytes-text.ensures) (prefix_fits c.args.radix c.args.bytes.now c.args.state c.requires)

pub split_at_digit-fraction-requires : goal.split_at_digit-fraction-requires
split_at_digit-fraction-requires g c =
    let same : digits_in c.same_bytes-text.result.now ≡ digits_in c.args.bytes.now = ap digits_in c.same_bytes-text.ensures in
    rw (c.split_at_digit-whole.ensures.back ∙ ap (drop c.args.state.whole_len) same) (back_fits c.args.radix c.args.bytes.now c.args.state c.requires)

pub of-requires-clause-digits : goal.of-requires-clause-digits
of-requires-clause-digits g c =
    let same : digits_in c.same_bytes-text.result.now ≡ digits_in c.args.bytes.now = ap digits_in c.same_bytes-text.ensures in
    let back : digits_in c.split_at_digit-whole.result.1.now ≡ drop c.args.state.whole_len (digits_in c.args.bytes.now) = c.split_at_digit-whole.ensures.back ∙ ap (drop c.args.state.whole_len) same in
    omega (arith, ap length (c.split_at_digit-whole.ensures.prefix ∙ ap (take c.args.state.whole_len) same), ap length (c.split_at_digit-fraction.ensures.prefix ∙ ap (take c.args.state.fraction_len) back), length-take c.args.state.whole_len (digits_in c.args.bytes.now), length-take c.args.state.fraction_len (drop c.args.state.whole_len (digits_in c.args.bytes.now)), literal_fits c.args.radix c.args.bytes.now c.args.state c.requires, ap length c.same_bytes-text.ensures, c.same_bytes-text.type_inv)

pub returns-clause-value : goal.returns-clause-value
returns-clause-value g c =
    let same : digits_in c.same_bytes-text.result.now ≡ digits_in c.args.bytes.now = ap digits_in c.same_bytes-text.ensures in
    let back : digits_in c.split_at_digit-whole.result.1.now ≡ drop c.args.state.whole_len (digits_in c.args.bytes.now) = c.split_at_digit-whole.ensures.back ∙ ap (drop c.args.state.whole_len) same in
    λ p h k e.
    let q = record c.requires.parts { sign = p.sign } in
    rw (parts_of_rest c.args.radix c.args.bytes.now c.args.state c.requires p h) at (c.of.ensures.value q (signed_parts c.args.radix c.requires.parts p.sign k c.requires.beginning.beginning.parts) e ((c.split_at_digit-whole.ensures.prefix ∙ ap (take c.args.state.whole_len) same) ∙ prefix_whole c.args.radix c.args.bytes.now c.args.state c.requires) ((c.split_at_digit-fraction.ensures.prefix ∙ ap (take c.args.state.fraction_len) back) ∙ prefix_fraction c.args.radix c.args.bytes.now c.args.state c.requires) c.requires.agrees.exponent)

pub returns-clause-cost : goal.returns-clause-cost
returns-clause-cost g c =
    let same : digits_in c.same_bytes-text.result.now ≡ digits_in c.args.bytes.now = ap digits_in c.same_bytes-text.ensures in
    let back : digits_in c.split_at_digit-whole.result.1.now ≡ drop c.args.state.whole_len (digits_in c.args.bytes.now) = c.split_at_digit-whole.ensures.back ∙ ap (drop c.args.state.whole_len) same in
    omega (arith, ap length (c.split_at_digit-whole.ensures.prefix ∙ ap (take c.args.state.whole_len) same), ap length (c.split_at_digit-fraction.ensures.prefix ∙ ap (take c.args.state.fraction_len) back), length-take c.args.state.whole_len (digits_in c.args.bytes.now), length-take c.args.state.fraction_len (drop c.args.state.whole_len (digits_in c.args.bytes.now)), literal_fits c.args.radix c.args.bytes.now c.args.state c.requires, c.of.ensures.cost)
