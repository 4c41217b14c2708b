use Rattle.fixed_write.proofs.base.+push_each_last.Given as goal

abbrev pub decreases-push_each_last : goal.decreases-push_each_last
decreases-push_each_last g l = l.places
