use Rattle.fixed_show.proofs.narrow.+trimmed.Given as goal

abbrev pub decreases-trimmed : goal.decreases-trimmed
decreases-trimmed l = l.places
