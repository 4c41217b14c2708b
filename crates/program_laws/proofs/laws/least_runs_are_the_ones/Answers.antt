use Rattle.program_laws.proofs.ProgramLemmas.{least_runs_one}
use Rattle.program_laws.proofs.laws.least_runs_are_the_ones.Goals as goal

pub returns : goal.returns
returns c = least_runs_one c.report_is_the_one.ensures
