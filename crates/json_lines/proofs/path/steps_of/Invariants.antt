use Rattle.std.proofs.Common.{◌≡◌, ◌≤◌, ◌++◌, ℕ, length, map, option_map}
use Rattle.json_lines.specs.Path.{step_of, steps_of}
use Rattle.json_lines.proofs.path.steps_of.Given as goal

abbrev pub invariant-steps : goal.invariant-steps
invariant-steps l = record {
  most : ℕ;
  few : length l.rest ≤ most;
  same : steps_of (length l.text) l.text ≡ option_map (λ more. map step_of l.steps.items ++ more) (steps_of most l.rest);
}

abbrev pub decreases-steps : goal.decreases-steps
decreases-steps l = length l.rest
