use Rattle.fixed_io.proofs.WhyLemmas.{why_one}
use Rattle.fixed_io.proofs.laws.why_is_the_one.Goals as goal

pub returns : goal.returns
returns c = why_one
