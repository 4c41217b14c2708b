use Rattle.program_laws.proofs.ProgramLemmas.{program_runs_one}
use Rattle.program_laws.proofs.laws.program_runs_are_the_ones.Goals as goal

pub returns : goal.returns
returns c = program_runs_one c.report_is_the_one.ensures c.cut_anywhere.ensures c.self_run_is_the_one.ensures c.summary_is_the_one.ensures
