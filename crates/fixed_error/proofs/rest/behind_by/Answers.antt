use Rattle.fixed_error.proofs.rest.behind_by.Goals as goal

pub returns-then-found-eq0 : goal.returns-then-found-eq0
returns-then-found-eq0 g c = let short = rw c.in-Some.is at c.requires.short in c.behind_by_decimal.ensures c.args.radix c.args.text.now short
