use Rattle.fixed_bench.proofs.main.Given as goal

abbrev pub ghosts-constant_over : goal.ghosts-constant_over
ghosts-constant_over a = record { name = a.blank.name; parts = a.blank.parts }

abbrev pub ghosts-sum_over : goal.ghosts-sum_over
ghosts-sum_over a = record { name = a.blank.name; parts = a.blank.parts }
