use Rattle.number_tests.proofs.means.means_are_rounded_to_six_digits.Given as goal

abbrev pub ghosts-are_as_wanted : goal.ghosts-are_as_wanted
ghosts-are_as_wanted g a = record { name = a.blank.name; parts = a.blank.parts }
