use Rattle.fixed_enclose.specs.Lemmas.EnclosureLemmas.{exact}
use Rattle.fixed_enclose.proofs.laws.exact_where_equal.Goals as goal

pub returns : goal.returns
returns c = exact
