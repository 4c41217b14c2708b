use Rattle.std.proofs.Common.{◌-◌, ◌∙◌, ◌++◌, ap, drop, take}
use Rattle.fixed_pack.proofs.WordLemmas.{few_big, few_little}
use Rattle.fixed_pack.proofs.word.push_few.Goals as goal

pub returns-in-Little-clause-appended : goal.returns-in-Little-clause-appended
returns-in-Little-clause-appended g c = rw c.in-Little.is (c.push_bytes.ensures ∙ ap (λ l. c.args.out.now ++ take c.args.count l) c.to_le_bytes.ensures ∙ ap (λ l. c.args.out.now ++ l) (few_little c.args.count c.args.number c.requires.few))

pub returns-in-Big-clause-appended : goal.returns-in-Big-clause-appended
returns-in-Big-clause-appended g c = rw c.in-Big.is (c.push_bytes-in-Big.ensures ∙ ap (λ l. c.args.out.now ++ take (8 - (8 - c.args.count)) (drop (8 - c.args.count) l)) c.to_be_bytes.ensures ∙ ap (λ l. c.args.out.now ++ l) (few_big c.args.count c.args.number c.requires.few))
