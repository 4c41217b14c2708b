use Rattle.fixed_laws.proofs.ReadingLemmas.{read_range_decided}
use Rattle.fixed_laws.proofs.laws.read_range_is_decided.Goals as goal

pub returns : goal.returns
returns c = read_range_decided
