use Rattle.number_tests.proofs.numerals.support.leading.Given as goal

abbrev pub ghosts-leading_over : goal.ghosts-leading_over
ghosts-leading_over a = record { name = a.blank.name; parts = a.blank.parts }
