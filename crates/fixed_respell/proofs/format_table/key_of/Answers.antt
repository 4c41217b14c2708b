use Rattle.std.proofs.Common.{arith}
use Rattle.fixed_respell.proofs.KeyLemmas.{each_below, key_is, key_some, key_most}
use Rattle.fixed_respell.proofs.format_table.key_of.Goals as goal

pub returns-clause-key : goal.returns-clause-key
returns-clause-key c = key_is c.args.word.now c.word_number.result c.requires.least c.requires.most c.word_number.ensures (each_below c.args.word.now (λ k. omega (arith, c.type_inv.word k)))

pub returns-clause-some : goal.returns-clause-some
returns-clause-some c = rw (returns-clause-key c) (key_some c.args.word.now c.requires.least)

pub returns-clause-most : goal.returns-clause-most
returns-clause-most c = rw (returns-clause-key c) (key_most c.args.word.now c.requires.least c.requires.most (each_below c.args.word.now (λ k. omega (arith, c.type_inv.word k))))
