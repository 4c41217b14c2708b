use Rattle.fixed_decimal.proofs.uncounted.read_decimal_format_uncounted.Given as goal

abbrev pub ghosts-read_format_over : goal.ghosts-read_format_over
ghosts-read_format_over a = record { name = a.blank.name; parts = a.blank.parts }
