use Rattle.fixed_report.proofs.text.+whole_of.Given as goal

abbrev pub decreases-whole_of : goal.decreases-whole_of
decreases-whole_of l = l.count
