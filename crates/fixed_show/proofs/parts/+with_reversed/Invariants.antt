use Rattle.fixed_show.proofs.parts.+with_reversed.Given as goal

abbrev pub decreases-with_reversed : goal.decreases-with_reversed
decreases-with_reversed l = l.count
