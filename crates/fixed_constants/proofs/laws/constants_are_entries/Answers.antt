use Rattle.fixed_constants.proofs.EntryLemmas.{declared_entries}
use Rattle.fixed_constants.proofs.laws.constants_are_entries.Goals as goal

pub returns : goal.returns
returns c text constants are = declared_entries text constants are
