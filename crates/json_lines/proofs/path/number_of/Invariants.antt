use Rattle.std.proofs.Common.{◌≡◌, ◌+◌, ◌*◌, ◌^◌, ◌≤◌, drop}
use Rattle.json_lines.specs.Path.{digits_number}
use Rattle.json_lines.proofs.path.number_of.Given as goal

abbrev pub invariant-loop-digit : goal.invariant-loop-digit
invariant-loop-digit l = record {
  same : digits_number 0 l.digits ≡ digits_number l.number (drop l.digit-index l.digits);
  small : l.number + 23 ≤ 23 * 10 ^ l.digit-index;
}
