use Rattle.fixed_bits.proofs.LawLemmas.{ends_wide}
use Rattle.fixed_bits.proofs.laws.ends_are_wide.Goals as goal

pub returns : goal.returns
returns c = ends_wide
