use Rattle.fixed_c.proofs.uncounted.enclose_uncounted.Given as goal

abbrev pub ghosts-enclose_over : goal.ghosts-enclose_over
ghosts-enclose_over a = record { name = a.blank.name; parts = a.blank.parts }
