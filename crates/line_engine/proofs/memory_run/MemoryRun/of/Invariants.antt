use Rattle.line_engine.proofs.memory_run.MemoryRun.of.Given as goal

abbrev pub ghosts-run_over : goal.ghosts-run_over
ghosts-run_over g a = record { name = a.blank.name; parts = a.blank.parts }
