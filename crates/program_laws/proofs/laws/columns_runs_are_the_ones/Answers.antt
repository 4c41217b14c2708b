use Rattle.program_laws.proofs.ProgramLemmas.{columns_runs_one}
use Rattle.program_laws.proofs.laws.columns_runs_are_the_ones.Goals as goal

pub returns : goal.returns
returns c = columns_runs_one c.report_is_the_one.ensures
