use Rattle.std.proofs.Common.{◌<◌, ℕ, get_or}
use Rattle.fixed_constants.specs.Constants.{IsNameByte}
use Rattle.fixed_constants.proofs.declaration.are_name_bytes.Given as goal

abbrev pub invariant-loop-i : goal.invariant-loop-i
invariant-loop-i l = (j : ℕ) → j < l.i → IsNameByte (get_or l.word j 0)
