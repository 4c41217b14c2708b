use Rattle.std.proofs.Common.{◌≡◌, length, take, drop, arith, refl}
use Rattle.std.proofs.lemmas.List.{length-take, length-drop}
use Rattle.std.specs.Int.Digits.{number_from_digits}
use Rattle.fixed_numeral.specs.Digits.{digits_in}
use Rattle.fixed_numeral.proofs.StripLemmas.{eight_stand, aligned_room, aligned_eight, aligned_fits, number_end}
use Rattle.fixed_numeral.proofs.swar.number_by_eights.Goals as goal

-- the word's number is that of the next eight digits
next : (c : goal.After-number_of_eight) → c.number_of_eight.result ≡ number_from_digits c.args.base (digits_in (take 8 (drop c.loop-at.at c.args.bytes.now)))
next c =
    let room = aligned_room c.args.base c.args.bytes.now c.loop-at.at c.loop-at.number c.loop-at.invariant c.loop-at-test.true in
    let stand = eight_stand c.args.base c.args.bytes.now c.loop-at.at c.requires.plain c.requires.digits room in
    let long : length (take 8 (drop c.loop-at.at c.args.bytes.now)) ≡ 8 = omega (arith, length-take 8 (drop c.loop-at.at c.args.bytes.now), length-drop c.loop-at.at c.args.bytes.now, room) in
    c.number_of_eight.ensures.number (digits_in (take 8 (drop c.loop-at.at c.args.bytes.now))) stand.count stand.below (c.digit_values.ensures (take 8 (drop c.loop-at.at c.args.bytes.now)) long (omega (arith, stand.count, long)) c.word_at.ensures)

pub overflow_mul-number : goal.overflow_mul-number
overflow_mul-number c =
    let room = aligned_room c.args.base c.args.bytes.now c.loop-at.at c.loop-at.number c.loop-at.invariant c.loop-at-test.true in
    let stand = eight_stand c.args.base c.args.bytes.now c.loop-at.at c.requires.plain c.requires.digits room in
    omega (arith, aligned_fits c.args.base c.args.bytes.now _ _ (aligned_eight c.args.base c.args.bytes.now c.loop-at.at c.loop-at.number _ c.loop-at.invariant c.loop-at-test.true stand refl) c.requires.digits c.requires.least c.requires.room)

pub overflow_add-number : goal.overflow_add-number
overflow_add-number c =
    let room = aligned_room c.args.base c.args.bytes.now c.loop-at.at c.loop-at.number c.loop-at.invariant c.loop-at-test.true in
    let stand = eight_stand c.args.base c.args.bytes.now c.loop-at.at c.requires.plain c.requires.digits room in
    omega (arith, aligned_fits c.args.base c.args.bytes.now _ _ (aligned_eight c.args.base c.args.bytes.now c.loop-at.at c.loop-at.number c.number_of_eight.result c.loop-at.invariant c.loop-at-test.true stand (next c)) c.requires.digits c.requires.least c.requires.room)

pub loop-at-preserved : goal.loop-at-preserved
loop-at-preserved c =
    let room = aligned_room c.args.base c.args.bytes.now c.loop-at.at c.loop-at.number c.loop-at.invariant c.loop-at-test.true in
    let stand = eight_stand c.args.base c.args.bytes.now c.loop-at.at c.requires.plain c.requires.digits room in
    aligned_eight c.args.base c.args.bytes.now c.loop-at.at c.loop-at.number c.number_of_eight.result c.loop-at.invariant c.loop-at-test.true stand (next c)

pub returns : goal.returns
returns c = number_end c.args.base 0 c.args.bytes.now c.loop-at.at c.loop-at.number c.loop-at.invariant.number_is c.loop-at-test.false
