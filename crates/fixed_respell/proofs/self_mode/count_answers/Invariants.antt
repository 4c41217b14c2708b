use Rattle.std.proofs.Common.{◌≤◌, ◌+◌, ◌*◌}
use Rattle.fixed_respell.specs.SelfMode.{IsTally, IsWithin}
use Rattle.fixed_respell.proofs.self_mode.count_answers.Given as goal

abbrev pub invariant-loop-line : goal.invariant-loop-line
invariant-loop-line g l = record {
  tally : IsTally l.line l.counts;
  within : IsWithin l.line l.counts;
  cost : l.steps ≤ l.initial.steps + 1424 * l.line;
}
