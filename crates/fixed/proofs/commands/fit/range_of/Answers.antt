use Rattle.std.proofs.Common.{◌<◌, inr, length, subst}
use Rattle.fixed.proofs.FitLemmas.{few_ends}
use Rattle.fixed.proofs.commands.fit.range_of.Goals as goal

pub returns-in_default-clause-refused : goal.returns-in_default-clause-refused
returns-in_default-clause-refused c =
    inr (λ list asked. few_ends (λ s. s.now) c.args.given.now.words.items list
    (subst (λ words. length words < 2) c.from.ensures c.in_default.len_below) asked.ends)
