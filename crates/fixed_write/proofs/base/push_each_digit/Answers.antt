use Rattle.std.proofs.Common.{arith, rules, add-one, ap, ◌∙◌, length, length-append}
use Rattle.fixed_write.proofs.DigitLemmas.{part_smaller}
use Rattle.fixed_write.proofs.BaseLemmas.{leading_none, leading_more, leading_room, leading_text}
use Rattle.fixed_write.proofs.base.push_each_digit.Goals as goal

pub digits-init : goal.digits-init
digits-init g c = leading_none _ _

pub digits-smaller : goal.digits-smaller
digits-smaller g c = part_smaller _ _ c.requires.low c.digits-test.true

pub digits-preserved : goal.digits-preserved
digits-preserved g c = rw add-one (leading_more _ _ _ _ c.requires.low c.ranges.number.fits c.digits.invariant c.digits-test.true)

pub push_digit-requires : goal.push_digit-requires
push_digit-requires g c =
    (search rules, (omega (arith, c.requires.high), (leading_room _ c.args.upper _ _ _ _ _ c.requires.low c.digits.invariant c.digits-test.false c.requires.room).0))

pub push_each_last-requires : goal.push_each_last-requires
push_each_last-requires g c =
    (search rules, (c.requires.low, (c.requires.high, omega (arith, (leading_room _ c.args.upper _ _ _ _ _ c.requires.low c.digits.invariant c.digits-test.false c.requires.room).1, ap length c.push_digit.ensures ∙ length-append c.args.out.now _))))

pub returns : goal.returns
returns g c = leading_text _ _ _ _ _ _ _ _ c.requires.low c.digits.invariant c.digits-test.false c.push_digit.ensures c.push_each_last.ensures
