use Rattle.number_tests.proofs.numerals.support.no_literal.Given as goal

abbrev pub ghosts-no_literal_over : goal.ghosts-no_literal_over
ghosts-no_literal_over a = record { name = a.blank.name; parts = a.blank.parts }
