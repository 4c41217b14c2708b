use Rattle.number_tests.proofs.numerals.support.refused_bytes.Given as goal

abbrev pub ghosts-refused_over : goal.ghosts-refused_over
ghosts-refused_over a = record { name = a.blank.name; parts = a.blank.parts }
