use Rattle.std.proofs.Common.{arith, rules, ap, ◌∙◌, ◌≡◌, ◌++◌, false, length, length-append, unsigned_abs}
use Rattle.std.specs.Fmt.{sign_text}
use Rattle.std.specs.Int.{is_negative}
use Rattle.fixed_bits.specs.Rounded.{magnitude_mode}
use Rattle.fixed_write.proofs.IntegerLemmas.{sign_length}
use Rattle.fixed_write.proofs.ScaleLemmas.{block_ten}
use Rattle.fixed_write.proofs.PlacesLemmas.{rounded_text_is, rounded_text_ascii, rounded_of_parts, rounded_length}
use Rattle.fixed_write.proofs.in_place.push_decimal.Goals as goal

pub push_rounded_in-requires : goal.push_rounded_in-requires
push_rounded_in-requires g c =
    let sign : c.push_sign.new.out ≡ c.args.out.now ++ sign_text (is_negative c.args.value) = search (rules, c.push_sign.ensures) in
    (search rules, (block_ten, ((λ e. omega arith), (c.requires.places, omega (arith, c.requires.room, ap length sign ∙ length-append c.args.out.now (sign_text (is_negative c.args.value)), sign_length (is_negative c.args.value))))))

pub returns-clause-appended : goal.returns-clause-appended
returns-clause-appended g c =
    let sign : c.push_sign.new.out ≡ c.args.out.now ++ sign_text (is_negative c.args.value) = search (rules, c.push_sign.ensures) in
    let own : c.magnitude_mode_of-own_mode.result ≡ magnitude_mode c.args.mode (is_negative c.args.value) = search (rules, c.magnitude_mode_of-own_mode.ensures) in
    let far : c.magnitude_of.result ≡ unsigned_abs c.args.value = search (rules, c.magnitude_of.ensures) in
    rounded_of_parts c.args.mode _ _ _ c.args.value _ c.args.frac _ _ _ _ _ _ own c.requires.frac far c.split_of-split.ensures.whole c.split_of-split.ensures.rest sign c.push_rounded_in.ensures

pub returns-clause-rounded : goal.returns-clause-rounded
returns-clause-rounded g c = rounded_text_is c.args.mode 10 false c.args.places c.args.value c.args.frac

pub returns-clause-short : goal.returns-clause-short
returns-clause-short g c = rounded_length c.args.mode c.args.value c.args.frac c.args.places c.requires.wide c.requires.frac c.requires.places

pub returns-clause-ascii : goal.returns-clause-ascii
returns-clause-ascii g c = rounded_text_ascii c.args.mode 10 false c.args.places c.args.value c.args.frac (omega arith) (omega arith)
