use Rattle.std.proofs.Common.{◌≡◌, ◌+◌, drop}
use Rattle.fixed_command.specs.Fields.{digits_of}
use Rattle.fixed_command.proofs.field.digits_of.Given as goal

abbrev pub invariant-bytes : goal.invariant-bytes
invariant-bytes l = digits_of l.is_hex l.bytes ≡ l.at + digits_of l.is_hex (drop l.at l.bytes)
