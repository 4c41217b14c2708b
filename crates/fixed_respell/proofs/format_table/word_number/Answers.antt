use Rattle.std.proofs.Common.{arith}
use Rattle.fixed_respell.proofs.KeyLemmas.{each_below, word_sum}
use Rattle.fixed_respell.proofs.format_table.word_number.Goals as goal

pub returns : goal.returns
returns c = word_sum c.args.word.now _ _ c.requires.least c.requires.most (each_below c.args.word.now (λ k. omega (arith, c.type_inv.word k))) c.four_bytes.ensures c.four_bytes-last.ensures
