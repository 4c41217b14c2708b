use Rattle.fixed_c.proofs.uncounted.ending_uncounted.Given as goal

abbrev pub ghosts-ending_over : goal.ghosts-ending_over
ghosts-ending_over a = record { name = a.blank.name; parts = a.blank.parts }
