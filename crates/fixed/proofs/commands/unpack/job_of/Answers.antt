use Rattle.fixed.proofs.commands.unpack.job_of.Goals as goal

pub returns-in-Err-clause-refused : goal.returns-in-Err-clause-refused
returns-in-Err-clause-refused c job files asked = c.in-Err.ensures.refused asked.written files asked.is_written
