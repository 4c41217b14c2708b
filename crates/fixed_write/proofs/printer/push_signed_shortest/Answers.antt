use Rattle.std.proofs.Common.{arith, rules, ap, sym, ◌∙◌, ◌≡◌, ◌++◌, length, length-append, unsigned_abs}
use Rattle.std.specs.Fmt.{sign_text}
use Rattle.std.specs.Int.{is_negative}
use Rattle.fixed_bits.specs.Numbers.{with_sign}
use Rattle.fixed_write.proofs.AsciiLemmas.{shortest_text_ascii}
use Rattle.fixed_write.proofs.IntegerLemmas.{sign_length, signed_abs, word_digits}
use Rattle.fixed_write.proofs.TextLemmas.{shortest_text_is, text_of_parts, parts_length}
use Rattle.fixed_write.proofs.printer.push_signed_shortest.Goals as goal

pub push_whole-requires : goal.push_whole-requires
push_whole-requires g c =
    let sign : c.push_sign.new.out ≡ c.args.out.now ++ sign_text (is_negative (with_sign c.args.negative c.args.magnitude)) = rw c.is_below_zero.ensures at c.push_sign.ensures in
    (search rules, omega (arith, c.requires.room, ap length sign ∙ length-append c.args.out.now (sign_text (is_negative (with_sign c.args.negative c.args.magnitude))), sign_length (is_negative (with_sign c.args.negative c.args.magnitude)), word_digits c.whole_of.result c.whole_of.type_inv))

pub push_fraction-requires : goal.push_fraction-requires
push_fraction-requires g c =
    let sign : c.push_sign.new.out ≡ c.args.out.now ++ sign_text (is_negative (with_sign c.args.negative c.args.magnitude)) = rw c.is_below_zero.ensures at c.push_sign.ensures in
    (search rules, (c.requires.frac, omega (arith, c.requires.room, ap length sign ∙ length-append c.args.out.now (sign_text (is_negative (with_sign c.args.negative c.args.magnitude))), ap length c.push_whole.ensures ∙ length-append c.push_sign.new.out _, sign_length (is_negative (with_sign c.args.negative c.args.magnitude)), word_digits c.whole_of.result c.whole_of.type_inv)))

pub returns-clause-appended : goal.returns-clause-appended
returns-clause-appended g c =
    let sign : c.push_sign.new.out ≡ c.args.out.now ++ sign_text (is_negative (with_sign c.args.negative c.args.magnitude)) = rw c.is_below_zero.ensures at c.push_sign.ensures in
    let far : c.args.magnitude ≡ unsigned_abs (with_sign c.args.negative c.args.magnitude) = sym (signed_abs c.args.negative c.args.magnitude) in
    text_of_parts (with_sign c.args.negative c.args.magnitude) c.args.frac _ _ _ _ _ _ far c.whole_of.ensures sign c.push_whole.ensures c.push_fraction.ensures

pub returns-clause-shortest : goal.returns-clause-shortest
returns-clause-shortest g c = shortest_text_is (with_sign c.args.negative c.args.magnitude) c.args.frac

pub returns-clause-short : goal.returns-clause-short
returns-clause-short g c =
    let sign : c.push_sign.new.out ≡ c.args.out.now ++ sign_text (is_negative (with_sign c.args.negative c.args.magnitude)) = rw c.is_below_zero.ensures at c.push_sign.ensures in
    let far : c.args.magnitude ≡ unsigned_abs (with_sign c.args.negative c.args.magnitude) = sym (signed_abs c.args.negative c.args.magnitude) in
    let all = text_of_parts (with_sign c.args.negative c.args.magnitude) c.args.frac _ _ _ _ _ _ far c.whole_of.ensures sign c.push_whole.ensures c.push_fraction.ensures in
    (parts_length (with_sign c.args.negative c.args.magnitude) c.args.frac _ _ _ _ _ _ c.requires.frac c.whole_of.type_inv sign c.push_whole.ensures c.push_fraction.ensures all).0

pub returns-clause-ascii : goal.returns-clause-ascii
returns-clause-ascii g c = shortest_text_ascii (with_sign c.args.negative c.args.magnitude) c.args.frac

pub returns-clause-cost : goal.returns-clause-cost
returns-clause-cost g c =
    let sign : c.push_sign.new.out ≡ c.args.out.now ++ sign_text (is_negative (with_sign c.args.negative c.args.magnitude)) = rw c.is_below_zero.ensures at c.push_sign.ensures in
    let far : c.args.magnitude ≡ unsigned_abs (with_sign c.args.negative c.args.magnitude) = sym (signed_abs c.args.negative c.args.magnitude) in
    let all = text_of_parts (with_sign c.args.negative c.args.magnitude) c.args.frac _ _ _ _ _ _ far c.whole_of.ensures sign c.push_whole.ensures c.push_fraction.ensures in
    let few = (parts_length (with_sign c.args.negative c.args.magnitude) c.args.frac _ _ _ _ _ _ c.requires.frac c.whole_of.type_inv sign c.push_whole.ensures c.push_fraction.ensures all).1 in
    omega (arith, few, c.len-before.ensures.value, c.len.ensures.value, c.advance.ensures)
