use Rattle.fixed_c.proofs.uncounted.respell_uncounted.Given as goal

abbrev pub ghosts-respell_over : goal.ghosts-respell_over
ghosts-respell_over a = record { name = a.blank.name; parts = a.blank.parts }
