use Rattle.std.proofs.Common.{◌-◌, arith, rules}
use lib.Count.{count_leading_zeros}
use Rattle.fixed_write.proofs.ReducedLemmas.{sixteen_up_to, up_to_few, appended, dot_length}
use Rattle.fixed_write.proofs.digits.push_reduced.Goals as goal

pub push_prefix-requires : goal.push_prefix-requires
push_prefix-requires g c =
    let few = up_to_few _ _ _ (sixteen_up_to c.args.number c.other_digits.result c.sixteen_digits-characters.result c.requires.sixteen c.sixteen_digits-characters.ensures c.other_digits.ensures.value c.other_digits.ensures.bits) in
    (search rules, (few, omega (arith, few, c.requires.room, dot_length (64 - count_leading_zeros 64 c.other_digits.result) c.args.out.now c.push_if.new.self c.push_if.ensures)))

pub returns : goal.returns
returns g c =
    let all = sixteen_up_to c.args.number c.other_digits.result c.sixteen_digits-characters.result c.requires.sixteen c.sixteen_digits-characters.ensures c.other_digits.ensures.value c.other_digits.ensures.bits in
    appended 16 c.args.number _ _ _ _ all c.push_if.ensures (rw c.sixteen_digits-characters.ensures at c.push_prefix.ensures)
