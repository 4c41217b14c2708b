use Rattle.std.proofs.Common.{arith, ◌≡◌, ◌<◌, ◌^◌, ◌++◌, refl, sym, unsigned_abs, false}
use Rattle.std.specs.Fmt.{sign_text}
use Rattle.std.specs.Int.{is_negative}
use Rattle.fixed_bits.specs.Numbers.{with_sign}
use Rattle.fixed_write.proofs.IntegerLemmas.{signed_abs}
use Rattle.fixed_write.proofs.PlacesLemmas.{exact_length_of, exact_of_parts, exact_text_ascii, exact_text_is}
use Rattle.fixed_write.proofs.in_place.push_signed_exact.Goals as goal

pub returns-clause-appended : goal.returns-clause-appended
returns-clause-appended g c =
    let v = with_sign c.args.negative c.args.magnitude in
    let sign : c.push_sign.new.out ≡ c.args.out.now ++ sign_text (is_negative v) = rw c.is_below_zero.ensures at c.push_sign.ensures in
    exact_of_parts 10 false v c.args.magnitude c.args.frac _ _ _ _ _ refl c.requires.frac (sym (signed_abs c.args.negative c.args.magnitude)) c.split_of.ensures.whole c.split_of.ensures.rest sign c.push_exact_decimal.ensures

pub returns-clause-exact : goal.returns-clause-exact
returns-clause-exact g c = exact_text_is 10 false (with_sign c.args.negative c.args.magnitude) c.args.frac refl

pub returns-clause-short : goal.returns-clause-short
returns-clause-short g c =
    let small : unsigned_abs (with_sign c.args.negative c.args.magnitude) < 2 ^ 64 = rw (signed_abs c.args.negative c.args.magnitude) c.ranges.magnitude.fits in
    exact_length_of 10 false (with_sign c.args.negative c.args.magnitude) c.args.frac (omega arith) refl small c.requires.frac

pub returns-clause-ascii : goal.returns-clause-ascii
returns-clause-ascii g c = exact_text_ascii 10 false (with_sign c.args.negative c.args.magnitude) c.args.frac (omega arith) (omega arith)
