use Rattle.std.proofs.Common.{◌+◌, ◌-◌, ◌*◌, ◌%◌, ◌^◌, arith, rules}
use lib.Count.{count_leading_zeros}
use Rattle.fixed_write.proofs.ReducedLemmas.{in_halves, twenty_few, halves_appended, dot_length, beginning_length}
use Rattle.fixed_write.proofs.digits.push_long_reduced.Goals as goal

pub push_prefix-requires-2 : goal.push_prefix-requires-2
push_prefix-requires-2 g c =
    let both = in_halves c.args.high c.args.low _ _ _ _ _ c.requires.high c.requires.low c.moved_up.ensures.value c.sixteen_digits-first.ensures c.sixteen_digits-others.ensures c.other_digits.ensures.value c.other_digits-2.ensures.value c.other_digits.ensures.bits c.other_digits-2.ensures.bits in
    let few = twenty_few _ _ _ _ _ both in
    (search rules, (omega (arith, few, c.min-many.ensures), omega (arith, few, c.min-many.ensures, c.requires.room, dot_length (64 - count_leading_zeros 64 (c.other_digits.result + c.other_digits-2.result * 2 ^ 16 % 2 ^ 64)) c.args.out.now c.push_if.new.self c.push_if.ensures, beginning_length c.min-many.result c.sixteen_digits-first.result c.push_if.new.self c.push_prefix.new.self c.push_prefix.ensures)))

pub returns : goal.returns
returns g c =
    let both = in_halves c.args.high c.args.low _ _ _ _ _ c.requires.high c.requires.low c.moved_up.ensures.value c.sixteen_digits-first.ensures c.sixteen_digits-others.ensures c.other_digits.ensures.value c.other_digits-2.ensures.value c.other_digits.ensures.bits c.other_digits-2.ensures.bits in
    halves_appended c.args.high c.args.low _ _ _ _ _ _ _ _ both c.min-many.ensures c.push_if.ensures c.push_prefix.ensures c.push_prefix-2.ensures
