use Rattle.std.proofs.Common.{arith, rules}
use Rattle.fixed_write.proofs.ScaleLemmas.{block_two, block_eight, block_ten, block_sixteen}
use Rattle.fixed_write.proofs.styled.push_rounded_body.Goals as goal

pub push_rounded_in-requires : goal.push_rounded_in-requires
push_rounded_in-requires c = (search rules, (block_two, ((λ e. omega (arith, e)), (c.requires.places, omega (arith, c.requires.room)))))

pub push_rounded_in-requires-in-Oct : goal.push_rounded_in-requires-in-Oct
push_rounded_in-requires-in-Oct c = (search rules, (block_eight, ((λ e. omega (arith, e)), (c.requires.places, omega (arith, c.requires.room)))))

pub push_rounded_in-requires-in-LowerHex : goal.push_rounded_in-requires-in-LowerHex
push_rounded_in-requires-in-LowerHex c = (search rules, (block_sixteen, ((λ e. omega (arith, e)), (c.requires.places, omega (arith, c.requires.room)))))

pub push_rounded_in-requires-in-UpperHex : goal.push_rounded_in-requires-in-UpperHex
push_rounded_in-requires-in-UpperHex c = (search rules, (block_sixteen, ((λ e. omega (arith, e)), (c.requires.places, omega (arith, c.requires.room)))))

pub push_rounded_in-requires-in_default : goal.push_rounded_in-requires-in_default
push_rounded_in-requires-in_default c = (search rules, (block_ten, ((λ e. omega (arith, e)), (c.requires.places, omega (arith, c.requires.room)))))
