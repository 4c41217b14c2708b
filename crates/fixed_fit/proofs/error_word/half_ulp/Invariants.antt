use Rattle.std.proofs.Common.{◌-◌, ◌≡◌, ◌≤◌, ◌++◌, replicate}
use Rattle.std.specs.Prelude.{codes}
use Rattle.fixed_fit.proofs.error_word.half_ulp.Given as goal

abbrev pub invariant-loop-place : goal.invariant-loop-place
invariant-loop-place l = record {
  zeros : l.text ≡ codes "0." ++ replicate l.place 48;
  most : l.place ≤ l.frac;
}

abbrev pub decreases-loop-place : goal.decreases-loop-place
decreases-loop-place l = l.frac - l.place
