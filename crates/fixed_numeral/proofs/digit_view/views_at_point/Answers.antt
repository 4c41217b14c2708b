use Rattle.fixed_numeral.proofs.PlaceLemmas.{stays_placed}
use Rattle.fixed_numeral.proofs.digit_view.views_at_point.Goals as goal

pub returns-clause-placed : goal.returns-clause-placed
returns-clause-placed g c = rw (c.of.ensures, c.of-2.ensures) (stays_placed c.args.whole.now c.args.fraction.now c.without_leading-left.result c.without_trailing-right.result c.without_leading-left.ensures c.without_trailing-right.ensures)
