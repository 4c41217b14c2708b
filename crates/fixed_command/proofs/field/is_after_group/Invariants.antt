use Rattle.std.proofs.Common.{◌≡◌, ◌<◌, ℕ, length}
use Rattle.fixed_command.specs.Fields.{are_groups, is_after_group}
use Rattle.fixed_command.proofs.field.is_after_group.Given as goal

abbrev pub invariant-groups : goal.invariant-groups
invariant-groups l = record {
  most : ℕ;
  few : length l.rest < most;
  same : is_after_group l.is_hex l.separator l.bytes ≡ are_groups most l.is_hex l.separator l.rest;
}

abbrev pub decreases-groups : goal.decreases-groups
decreases-groups l = length l.rest
