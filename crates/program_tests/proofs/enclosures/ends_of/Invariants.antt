use Rattle.program_tests.proofs.enclosures.ends_of.Given as goal

abbrev pub ghosts-enclose_over : goal.ghosts-enclose_over
ghosts-enclose_over a = record { name = a.blank.name; parts = a.blank.parts }
