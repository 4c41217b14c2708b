use Rattle.std.proofs.Common.{◌≡◌, ◌+◌, ◌-◌, ◌≤◌, drop, length}
use Rattle.std.specs.List.{prefix_len}
use Rattle.json_lines.specs.Pieces.{is_word_byte}
use Rattle.json_lines.proofs.piece.word_end.Given as goal

abbrev pub invariant-bytes : goal.invariant-bytes
invariant-bytes l = (l.from + prefix_len is_word_byte (drop l.from l.line) ≡ l.at + prefix_len is_word_byte (drop l.at l.line))
    × (l.at ≤ length l.line)

abbrev pub decreases-bytes : goal.decreases-bytes
decreases-bytes l = length l.line - l.at
