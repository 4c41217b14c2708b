use Rattle.fixed_read.proofs.uncounted.read_literal.Given as goal

abbrev pub ghosts-read_literal_over : goal.ghosts-read_literal_over
ghosts-read_literal_over a = record { name = a.blank.name; parts = a.blank.parts }
