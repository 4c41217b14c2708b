use Rattle.std.proofs.Common.{◌≡◌, ◌-◌, ◌≤◌, drop, length}
use Rattle.json_lines.specs.Pieces.{begins_colon}
use Rattle.json_lines.proofs.piece.begins_colon.Given as goal

abbrev pub invariant-bytes : goal.invariant-bytes
invariant-bytes l = (begins_colon l.rest ≡ begins_colon (drop l.at l.rest)) × (l.at ≤ length l.rest)

abbrev pub decreases-bytes : goal.decreases-bytes
decreases-bytes l = length l.rest - l.at
