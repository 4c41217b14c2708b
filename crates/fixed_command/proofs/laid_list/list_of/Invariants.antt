use Rattle.std.proofs.Common.{◌≡◌, ◌++◌, length, map}
use Rattle.line_engine.specs.Lines.{lines}
use Rattle.fixed_command.specs.LaidList.{joined_lines, numeral_of}
use Rattle.fixed_command.proofs.laid_list.list_of.Given as goal

abbrev pub invariant-loop-rest : goal.invariant-loop-rest
invariant-loop-rest l = l.list.items ++ joined_lines (map (numeral_of l.layout) (lines l.rest)) ≡ joined_lines (map (numeral_of l.layout) (lines l.text))

abbrev pub decreases-loop-rest : goal.decreases-loop-rest
decreases-loop-rest l = length l.rest
