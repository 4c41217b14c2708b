use Rattle.number_tests.proofs.errors.are_ordered.Given as goal

abbrev pub ghosts-are_as_wanted : goal.ghosts-are_as_wanted
ghosts-are_as_wanted a = record { name = a.blank.name; parts = a.blank.parts }
