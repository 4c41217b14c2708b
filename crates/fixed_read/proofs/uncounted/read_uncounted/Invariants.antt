use Rattle.fixed_read.proofs.uncounted.read_uncounted.Given as goal

abbrev pub ghosts-read_over : goal.ghosts-read_over
ghosts-read_over a = record { name = a.blank.name; parts = a.blank.parts }
