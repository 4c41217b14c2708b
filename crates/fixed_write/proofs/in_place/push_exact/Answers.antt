use Rattle.std.proofs.Common.{arith, rules, ap, ◌∙◌, ◌≡◌, ◌++◌, length, length-append, unsigned_abs}
use Rattle.std.specs.Fmt.{sign_text}
use Rattle.std.specs.Int.{is_negative}
use Rattle.fixed_write.specs.Bases.{number_of, has_capitals}
use Rattle.fixed_write.proofs.IntegerLemmas.{sign_length}
use Rattle.fixed_write.proofs.PlacesLemmas.{base_low, base_high, base_even, exact_text_is, exact_text_ascii, exact_of_parts, exact_length}
use Rattle.fixed_write.proofs.in_place.push_exact.Goals as goal

pub push_exact_digits-requires : goal.push_exact_digits-requires
push_exact_digits-requires g c =
    let sign : c.push_sign.new.out ≡ c.args.out.now ++ sign_text (is_negative c.args.value) = search (rules, c.push_sign.ensures) in
    (search rules, omega (arith, c.requires.room, ap length sign ∙ length-append c.args.out.now (sign_text (is_negative c.args.value)), sign_length (is_negative c.args.value)))

pub returns-clause-appended : goal.returns-clause-appended
returns-clause-appended g c =
    let sign : c.push_sign.new.out ≡ c.args.out.now ++ sign_text (is_negative c.args.value) = search (rules, c.push_sign.ensures) in
    let far : c.magnitude_of.result ≡ unsigned_abs c.args.value = search (rules, c.magnitude_of.ensures) in
    exact_of_parts (number_of c.args.base) (has_capitals c.args.base) c.args.value _ c.args.frac _ _ _ _ _ (base_even c.args.base) c.requires.frac far c.split_of-split.ensures.whole c.split_of-split.ensures.rest sign c.push_exact_digits.ensures

pub returns-clause-exact : goal.returns-clause-exact
returns-clause-exact g c = exact_text_is (number_of c.args.base) (has_capitals c.args.base) c.args.value c.args.frac (base_even c.args.base)

pub returns-clause-short : goal.returns-clause-short
returns-clause-short g c = exact_length c.args.base c.args.value c.args.frac c.requires.wide c.requires.frac

pub returns-clause-ascii : goal.returns-clause-ascii
returns-clause-ascii g c = exact_text_ascii (number_of c.args.base) (has_capitals c.args.base) c.args.value c.args.frac (base_low c.args.base) (base_high c.args.base)
