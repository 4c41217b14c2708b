use Rattle.run_tests.proofs.columns.each_read_fails_in_turn.Given as goal

abbrev pub ghosts-run_case : goal.ghosts-run_case
ghosts-run_case g a = record { name = a.blank.name; parts = a.blank.parts }
