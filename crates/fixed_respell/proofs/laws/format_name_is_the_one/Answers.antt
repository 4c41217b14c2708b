use Rattle.fixed_respell.proofs.FormatNameLemmas.{name_one}
use Rattle.fixed_respell.proofs.laws.format_name_is_the_one.Goals as goal

pub returns : goal.returns
returns c = name_one
