use Rattle.number_tests.proofs.errors.are_within_or_not.Given as goal

abbrev pub ghosts-are_bounded : goal.ghosts-are_bounded
ghosts-are_bounded a = record { name = a.blank.name; parts = a.blank.parts }
