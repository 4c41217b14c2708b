use Rattle.std.proofs.Common.{arith, rules, ap, sym, ◌∙◌, ◌≡◌, ◌<◌, ◌^◌, ◌++◌, length, length-append, unsigned_abs}
use Rattle.std.specs.Fmt.{sign_text}
use Rattle.std.specs.Int.{is_negative}
use Rattle.fixed_bits.specs.Numbers.{with_sign}
use Rattle.fixed_write.proofs.IntegerLemmas.{integer_of_parts, signed_abs, signed_decimal_short, signed_decimal_ascii, word_digits, sign_length}
use Rattle.fixed_write.proofs.integer.push_signed_integer.Goals as goal

pub push_whole-requires : goal.push_whole-requires
push_whole-requires g c =
    let v = with_sign c.args.negative c.args.magnitude in
    let sign : c.push_sign.new.out ≡ c.args.out.now ++ sign_text (is_negative v) = rw c.is_below_zero.ensures at c.push_sign.ensures in
    (search rules, omega (arith, c.requires, ap length sign ∙ length-append c.args.out.now (sign_text (is_negative v)), sign_length (is_negative v), word_digits c.args.magnitude c.ranges.magnitude.fits))

pub returns-clause-appended : goal.returns-clause-appended
returns-clause-appended g c =
    let v = with_sign c.args.negative c.args.magnitude in
    let sign : c.push_sign.new.out ≡ c.args.out.now ++ sign_text (is_negative v) = rw c.is_below_zero.ensures at c.push_sign.ensures in
    integer_of_parts v _ _ _ _ c.ranges.magnitude.fits (sym (signed_abs c.args.negative c.args.magnitude)) sign c.push_whole.ensures

pub returns-clause-short : goal.returns-clause-short
returns-clause-short g c =
    let small : unsigned_abs (with_sign c.args.negative c.args.magnitude) < 2 ^ 64 = rw (signed_abs c.args.negative c.args.magnitude) c.ranges.magnitude.fits in
    signed_decimal_short _ small

pub returns-clause-ascii : goal.returns-clause-ascii
returns-clause-ascii g c =
    let small : unsigned_abs (with_sign c.args.negative c.args.magnitude) < 2 ^ 64 = rw (signed_abs c.args.negative c.args.magnitude) c.ranges.magnitude.fits in
    signed_decimal_ascii _ small
