use Rattle.std.proofs.Common.{arith, rules, ap, ◌≡◌, ◌++◌, [], ◌∷◌, ◌+◌, false, length}
use Rattle.fixed_write.specs.Texts.{whole_digits}
use Rattle.fixed_write.proofs.IntegerLemmas.{word_digits}
use Rattle.fixed_write.proofs.SixteenLemmas.{pushed_length}
use Rattle.fixed_write.proofs.FigureLemmas.{parts_above, parts_below, parts_one, places_word}
use Rattle.fixed_write.proofs.exponent.push_parts.Goals as goal

pub push_whole-requires : goal.push_whole-requires
push_whole-requires c = (search rules, omega (arith, ap length c.requires.empty, word_digits _ c.ranges.whole.fits))

pub push_places-requires : goal.push_places-requires
push_places-requires c =
    let digits : c.push_whole.new.out ≡ [] ++ whole_digits 10 false c.args.whole = rw c.requires.empty at c.push_whole.ensures in
    (search rules, (c.requires.places, (c.requires.fits, omega (arith, c.requires.places, ap length digits, word_digits _ c.ranges.whole.fits))))

pub push-requires : goal.push-requires
push-requires c =
    let digits : c.push_whole.new.out ≡ [] ++ whole_digits 10 false c.args.whole = rw c.requires.empty at c.push_whole.ensures in
    omega (arith, c.requires.places, ap length digits, word_digits _ c.ranges.whole.fits, pushed_length _ _ _ _ c.push_places.ensures)

pub push_whole-requires-then-fraction-gt0 : goal.push_whole-requires-then-fraction-gt0
push_whole-requires-then-fraction-gt0 c =
    (search rules, omega (arith, ap length c.requires.empty, word_digits c.args.fraction.number (places_word _ _ c.requires.places c.requires.fits)))

pub push-requires-then-fraction-gt0 : goal.push-requires-then-fraction-gt0
push-requires-then-fraction-gt0 c =
    let digits : c.push_whole-then-fraction-gt0.new.out ≡ [] ++ whole_digits 10 false c.args.fraction.number = rw c.requires.empty at c.push_whole-then-fraction-gt0.ensures in
    (search rules, omega (arith, ap length digits, word_digits c.args.fraction.number (places_word _ _ c.requires.places c.requires.fits)))

pub push-requires-else-fraction-gt0 : goal.push-requires-else-fraction-gt0
push-requires-else-fraction-gt0 c = omega (arith, ap length c.requires.empty)

pub returns-then-whole-gt0 : goal.returns-then-whole-gt0
returns-then-whole-gt0 c =
    let digits : c.push_whole.new.out ≡ [] ++ whole_digits 10 false c.args.whole = rw c.requires.empty at c.push_whole.ensures in
    parts_above _ _ _ _ _ _ _ c.if-whole-gt0.true c.requires.fits c.requires.digit digits c.push_places.ensures c.push.ensures

pub returns-then-fraction-gt0 : goal.returns-then-fraction-gt0
returns-then-fraction-gt0 c =
    let digits : c.push_whole-then-fraction-gt0.new.out ≡ [] ++ whole_digits 10 false c.args.fraction.number = rw c.requires.empty at c.push_whole-then-fraction-gt0.ensures in
    parts_below _ _ _ _ _ _ c.if-whole-gt0.false c.if-fraction-gt0.true c.requires.digit digits c.push-then-fraction-gt0.ensures

pub returns-else-fraction-gt0 : goal.returns-else-fraction-gt0
returns-else-fraction-gt0 c =
    let digits : c.push-else-fraction-gt0.new.self ≡ [] ++ (48 + c.args.fraction.digit) ∷ [] = rw c.requires.empty at c.push-else-fraction-gt0.ensures in
    parts_one _ _ _ _ _ c.if-whole-gt0.false c.if-fraction-gt0.false c.requires.digit digits
