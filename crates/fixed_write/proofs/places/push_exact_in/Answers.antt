use Rattle.std.proofs.Common.{arith, rules, ap, ◌∙◌, ◌≤◌, length, length-append}
use Rattle.fixed_write.proofs.BlockLemmas.{word_length, exactly_none, exactly_more, exactly_few, exactly_smaller, exactly_ends, exactly_whole}
use Rattle.fixed_write.proofs.RestLemmas.{rest_digit}
use Rattle.std.proofs.Common.{ℕ, ◌<◌}
use Rattle.fixed_write.proofs.places.push_exact_in.Goals as goal

below_sixteen : (b d : ℕ) → d < b → b ≤ 16 → d < 16
below_sixteen b d l m = omega arith

pub push_whole_in-requires : goal.push_whole_in-requires
push_whole_in-requires g c =
    (search rules, (c.requires.low, (c.requires.high, omega (arith, word_length g.row.BASE c.args.upper c.args.value.whole c.requires.low c.args.value.word, c.requires.room))))

pub push-requires : goal.push-requires
push-requires g c =
    omega (arith, word_length g.row.BASE c.args.upper c.args.value.whole c.requires.low c.args.value.word, c.requires.room, ap length c.push_whole_in.ensures ∙ length-append c.args.out.now _)

pub digits-init : goal.digits-init
digits-init g c = exactly_none _ _ _ _ c.args.value.below

pub push_digit-requires : goal.push_digit-requires
push_digit-requires g c =
    (search rules, (below_sixteen g.row.BASE _ (rest_digit g.row.BASE _ _ _ _ _ _ _ (omega (arith, c.requires.low)) c.digits.invariant.digits c.scaled-digit.ensures.whole) c.requires.high, omega (arith, exactly_few _ _ _ _ _ _ c.requires.even c.digits.invariant c.digits-test.true, word_length g.row.BASE c.args.upper c.args.value.whole c.requires.low c.args.value.word, c.requires.room, ap length c.push_whole_in.ensures ∙ length-append c.args.out.now _, ap length c.push.ensures ∙ length-append c.push_whole_in.new.out _)))

pub digits-smaller : goal.digits-smaller
digits-smaller g c =
    exactly_smaller (length c.push.new.self) (length c.digits.out) (length c.push_digit.new.out) (ap length c.push_digit.ensures ∙ length-append c.digits.out _) (exactly_few _ _ _ _ _ _ c.requires.even c.digits.invariant c.digits-test.true)

pub digits-preserved : goal.digits-preserved
digits-preserved g c =
    exactly_more _ _ _ _ _ _ _ _ _ (omega (arith, c.requires.low)) c.digits.invariant c.digits-test.true c.scaled-digit.ensures.whole c.scaled-digit.ensures.rest c.push_digit.ensures

pub returns-after-digits : goal.returns-after-digits
returns-after-digits g c =
    exactly_ends _ _ _ _ _ _ _ _ _ (omega (arith, c.requires.low)) c.push_whole_in.ensures c.push.ensures c.digits.invariant c.digits-test.false (omega (arith, c.if-value-ne0.true)) c.args.value.below

pub returns-else-value-ne0 : goal.returns-else-value-ne0
returns-else-value-ne0 g c = exactly_whole _ _ _ _ _ _ (omega (arith, c.requires.low)) c.push_whole_in.ensures c.if-value-ne0.false
