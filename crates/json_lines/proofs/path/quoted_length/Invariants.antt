use Rattle.std.proofs.Common.{◌≡◌, ◌+◌, ◌-◌, ◌≤◌, drop, length}
use Rattle.std.specs.List.{prefix_len}
use Rattle.json_lines.specs.Path.{is_no_quote}
use Rattle.json_lines.proofs.path.quoted_length.Given as goal

abbrev pub invariant-bytes : goal.invariant-bytes
invariant-bytes l = (prefix_len is_no_quote l.text ≡ l.at + prefix_len is_no_quote (drop l.at l.text)) × (l.at ≤ length l.text)

abbrev pub decreases-bytes : goal.decreases-bytes
decreases-bytes l = length l.text - l.at
