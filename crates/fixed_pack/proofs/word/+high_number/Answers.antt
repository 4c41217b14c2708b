use Rattle.fixed_pack.proofs.WordLemmas.{high_cut, none_reversed}
use Rattle.fixed_pack.proofs.word.+high_number.Goals as goal

pub returns-in-empty-clause-value : goal.returns-in-empty-clause-value
returns-in-empty-clause-value t c = none_reversed c.args.bytes.now c.in-empty.len_below

pub returns-in-len1-up-clause-value : goal.returns-in-len1-up-clause-value
returns-in-len1-up-clause-value t c = high_cut c.args.bytes.now c.from.result c.high_number.result c.in-len1-up.len_at_least c.from.ensures c.high_number.ensures.value
