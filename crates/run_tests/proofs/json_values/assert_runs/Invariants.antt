use Rattle.run_tests.proofs.json_values.assert_runs.Given as goal

abbrev pub ghosts-run_case : goal.ghosts-run_case
ghosts-run_case g a = record { name = a.blank.name; parts = a.blank.parts }
