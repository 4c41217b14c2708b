use Rattle.program_laws.proofs.ProgramLemmas.{enclose_runs_one}
use Rattle.program_laws.proofs.laws.enclose_runs_are_the_ones.Goals as goal

pub returns : goal.returns
returns c = enclose_runs_one c.report_is_the_one.ensures c.cut_anywhere.ensures
