use Rattle.fixed_show.proofs.BlockLawLemmas.{refusal_one, show_block_one}
use Rattle.fixed_show.proofs.laws.show_block_is_the_one.Goals as goal

pub returns-clause-one : goal.returns-clause-one
returns-clause-one c = show_block_one

pub returns-clause-refused : goal.returns-clause-refused
returns-clause-refused c = refusal_one
