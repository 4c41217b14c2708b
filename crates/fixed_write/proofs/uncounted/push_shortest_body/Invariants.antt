use Rattle.fixed_write.proofs.uncounted.push_shortest_body.Given as goal

abbrev pub ghosts-push_shortest_over : goal.ghosts-push_shortest_over
ghosts-push_shortest_over a = record { name = a.blank.name; parts = a.blank.parts }
