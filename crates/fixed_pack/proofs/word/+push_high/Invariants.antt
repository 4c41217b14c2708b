use Rattle.fixed_pack.proofs.word.+push_high.Given as goal

abbrev pub decreases-push_high : goal.decreases-push_high
decreases-push_high g l = l.count
