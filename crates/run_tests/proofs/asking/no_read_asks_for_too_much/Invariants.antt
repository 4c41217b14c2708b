use Rattle.run_tests.proofs.asking.no_read_asks_for_too_much.Given as goal

abbrev pub ghosts-asked_by : goal.ghosts-asked_by
ghosts-asked_by g a = record { name = a.blank.name; parts = a.blank.parts }
