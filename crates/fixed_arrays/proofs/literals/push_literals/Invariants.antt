use Rattle.std.proofs.Common.{◌≡◌, ◌++◌, drop}
use Rattle.fixed_arrays.specs.Table.{literal_lines}
use Rattle.fixed_arrays.proofs.literals.push_literals.Given as goal

abbrev pub invariant-loop-i : goal.invariant-loop-i
invariant-loop-i g l = l.initial.text.items ++ literal_lines l.frame 0 l.constants ≡ l.text.items ++ literal_lines l.frame l.i (drop l.i l.constants)
