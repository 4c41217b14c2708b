use Rattle.fixed_enclose.specs.Lemmas.EnclosureLemmas.{tightest}
use Rattle.fixed_enclose.proofs.laws.none_is_tighter.Goals as goal

pub returns : goal.returns
returns c = tightest
