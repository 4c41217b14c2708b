use Rattle.fixed_report.proofs.text.+trimmed.Given as goal

abbrev pub decreases-trimmed : goal.decreases-trimmed
decreases-trimmed l = l.places
