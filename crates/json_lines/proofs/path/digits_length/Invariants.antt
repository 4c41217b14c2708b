use Rattle.std.proofs.Common.{◌≡◌, ◌+◌, ◌-◌, ◌≤◌, drop, length}
use Rattle.std.specs.List.{prefix_len}
use Rattle.std.specs.Char.{is_ascii_digit}
use Rattle.json_lines.proofs.path.digits_length.Given as goal

abbrev pub invariant-bytes : goal.invariant-bytes
invariant-bytes l = (prefix_len is_ascii_digit l.text ≡ l.at + prefix_len is_ascii_digit (drop l.at l.text)) × (l.at ≤ length l.text)

abbrev pub decreases-bytes : goal.decreases-bytes
decreases-bytes l = length l.text - l.at
