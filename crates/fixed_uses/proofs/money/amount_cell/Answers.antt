use Rattle.fixed_uses.proofs.MoneyLemmas.{cell}
use Rattle.fixed_uses.proofs.money.amount_cell.Goals as goal

pub returns : goal.returns
returns c = cell c.args.amount c.plain-style.result c.plain-style.ensures c.to_text.result c.to_text.ensures
