use Rattle.column_engine.proofs.RecordLemmas.{records_are_the_kits}
use Rattle.column_engine.proofs.laws.records_are_the_kits.Goals as goal

pub returns : goal.returns
returns c = records_are_the_kits
