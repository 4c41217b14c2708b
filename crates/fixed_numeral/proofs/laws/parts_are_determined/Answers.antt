use Rattle.fixed_numeral.proofs.NumeralLemmas.{parts_unique}
use Rattle.fixed_numeral.proofs.laws.parts_are_determined.Goals as goal

pub returns : goal.returns
returns c = parts_unique
