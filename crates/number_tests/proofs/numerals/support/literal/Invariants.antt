use Rattle.number_tests.proofs.numerals.support.literal.Given as goal

abbrev pub ghosts-literal_over : goal.ghosts-literal_over
ghosts-literal_over a = record { name = a.blank.name; parts = a.blank.parts }
