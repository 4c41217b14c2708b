use Rattle.fixed_show.proofs.formats.+decimal_log.Given as goal

abbrev pub decreases-decimal_log : goal.decreases-decimal_log
decreases-decimal_log l = l.number
