use Rattle.std.proofs.Common.{◌≡◌, ◌+◌, ◌≤◌, length}
use Rattle.fixed_arrays.specs.Inner.Elements.{HasReadTo}
use Rattle.fixed_arrays.proofs.elements.read_elements.Given as goal

abbrev pub invariant-loop-rest : goal.invariant-loop-rest
invariant-loop-rest g l = record {
  read : HasReadTo l.rule l.input l.rest l.elements;
  room : l.elements.lines + length l.rest ≤ length l.input;
  few : l.elements.count ≤ l.elements.lines;
}

abbrev pub decreases-loop-rest : goal.decreases-loop-rest
decreases-loop-rest g l = length l.rest
