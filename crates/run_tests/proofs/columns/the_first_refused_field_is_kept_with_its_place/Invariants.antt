use Rattle.run_tests.proofs.columns.the_first_refused_field_is_kept_with_its_place.Given as goal

abbrev pub ghosts-run_case : goal.ghosts-run_case
ghosts-run_case g a = record { name = a.blank.name; parts = a.blank.parts }
