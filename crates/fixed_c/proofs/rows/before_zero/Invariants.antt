use Rattle.std.proofs.Common.{◌≡◌, ◌++◌, take, drop}
use Rattle.fixed_c.specs.Rows.{before_zero}
use Rattle.fixed_c.proofs.rows.before_zero.Given as goal

abbrev pub invariant-loop-k : goal.invariant-loop-k
invariant-loop-k l = before_zero l.row ≡ take l.k l.row ++ before_zero (drop l.k l.row)
