use Rattle.fixed_columns.proofs.uncounted.read_decimal_uncounted.Given as goal

abbrev pub ghosts-read_decimal_over : goal.ghosts-read_decimal_over
ghosts-read_decimal_over a = record { name = a.blank.name; parts = a.blank.parts }
