use Rattle.std.proofs.Common.{◌≡◌, drop}
use Rattle.fixed_columns.specs.Rows.{after_spaces}
use Rattle.fixed_columns.proofs.row.without_leading_spaces.Given as goal

abbrev pub invariant-loop-i : goal.invariant-loop-i
invariant-loop-i l = after_spaces l.line ≡ after_spaces (drop l.i l.line)
