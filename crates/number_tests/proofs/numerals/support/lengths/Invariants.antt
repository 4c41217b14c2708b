use Rattle.number_tests.proofs.numerals.support.lengths.Given as goal

abbrev pub ghosts-lengths_over : goal.ghosts-lengths_over
ghosts-lengths_over a = record { name = a.blank.name; parts = a.blank.parts }
