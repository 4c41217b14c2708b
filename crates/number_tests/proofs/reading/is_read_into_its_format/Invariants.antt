use Rattle.number_tests.proofs.reading.is_read_into_its_format.Given as goal

abbrev pub ghosts-is_read_over : goal.ghosts-is_read_over
ghosts-is_read_over a = record { name = a.blank.name; parts = a.blank.parts }
