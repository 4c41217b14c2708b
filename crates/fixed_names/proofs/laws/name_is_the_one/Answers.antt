use Rattle.fixed_names.proofs.ToolNameLemmas.{names_one}
use Rattle.fixed_names.proofs.laws.name_is_the_one.Goals as goal

pub returns : goal.returns
returns c = names_one
