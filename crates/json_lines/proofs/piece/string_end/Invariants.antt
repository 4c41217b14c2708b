use Rattle.std.proofs.Common.{◌≡◌, ◌+◌, ◌-◌, ◌≤◌, drop, false, length}
use Rattle.json_lines.specs.Pieces.{string_rest}
use Rattle.json_lines.proofs.piece.string_end.Given as goal

abbrev pub invariant-bytes : goal.invariant-bytes
invariant-bytes l = (l.from + string_rest false (drop l.from l.line) ≡ l.at + string_rest l.is_escaped (drop l.at l.line))
    × (l.at ≤ length l.line)

abbrev pub decreases-bytes : goal.decreases-bytes
decreases-bytes l = length l.line - l.at
