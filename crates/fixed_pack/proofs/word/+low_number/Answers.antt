use Rattle.std.proofs.Common.{arith}
use Rattle.fixed_pack.proofs.WordLemmas.{low_cut, low_room, none_number}
use Rattle.fixed_pack.proofs.word.+low_number.Goals as goal

pub overflow_mul-result : goal.overflow_mul-result
overflow_mul-result t c = omega (arith, low_room c.args.bytes.now c.low_number.result c.requires c.in-len1-up.len_at_least c.low_number.ensures.below)

pub overflow_add-result : goal.overflow_add-result
overflow_add-result t c = omega (arith, low_room c.args.bytes.now c.low_number.result c.requires c.in-len1-up.len_at_least c.low_number.ensures.below, c.from.ensures, c.type_inv.bytes 0)

pub returns-in-empty-clause-value : goal.returns-in-empty-clause-value
returns-in-empty-clause-value t c = none_number c.args.bytes.now c.in-empty.len_below

pub returns-in-len1-up-clause-value : goal.returns-in-len1-up-clause-value
returns-in-len1-up-clause-value t c = low_cut c.args.bytes.now c.from.result c.low_number.result c.in-len1-up.len_at_least c.from.ensures c.low_number.ensures.value
