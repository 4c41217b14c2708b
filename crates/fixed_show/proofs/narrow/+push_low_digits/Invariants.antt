use Rattle.fixed_show.proofs.narrow.+push_low_digits.Given as goal

abbrev pub decreases-push_low_digits : goal.decreases-push_low_digits
decreases-push_low_digits g l = l.count
