use Rattle.number_tests.proofs.numerals.support.short_with.Given as goal

abbrev pub ghosts-short_over : goal.ghosts-short_over
ghosts-short_over a = record { name = a.blank.name; parts = a.blank.parts }
