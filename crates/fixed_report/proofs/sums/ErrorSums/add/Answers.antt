use Rattle.std.proofs.Common.{◌++◌, ◌∷◌, []}
use Rattle.fixed_report.proofs.SumLemmas.{added_to}
use Rattle.fixed_report.proofs.sums.ErrorSums.add.Goals as goal

pub returns-clause-known : goal.returns-clause-known
returns-clause-known c = (c.requires.known.0 ++ c.args.error ∷ [], added_to c.requires.known.0 c.args.error c.args.self.now c.from-size.result c.from.result c.from-2.result c.requires.known.1 c.requires.small c.from-size.ensures c.from.ensures c.from-2.ensures)

pub returns-clause-one_more : goal.returns-clause-one_more
returns-clause-one_more c = λ errors h _. added_to errors c.args.error c.args.self.now c.from-size.result c.from.result c.from-2.result h c.requires.small c.from-size.ensures c.from.ensures c.from-2.ensures
