use Rattle.fixed_c.proofs.uncounted.leading_uncounted.Given as goal

abbrev pub ghosts-leading_over : goal.ghosts-leading_over
ghosts-leading_over a = record { name = a.blank.name; parts = a.blank.parts }
