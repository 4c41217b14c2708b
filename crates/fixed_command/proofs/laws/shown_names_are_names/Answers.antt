use Rattle.fixed_command.proofs.ShownNameLemmas.{shown_names}
use Rattle.fixed_command.proofs.laws.shown_names_are_names.Goals as goal

pub returns : goal.returns
returns c = shown_names
