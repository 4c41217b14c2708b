use Rattle.std.proofs.Common.{◌≡◌, ◌+◌, ◌≤◌, ◌++◌, ℕ, List, length}
use Rattle.line_engine.specs.Lines.{lines}
use Rattle.fixed_constants.specs.Constants.{ConstantParts, Declare, FailAt, IsConstantsOf, IsFaultOf}
use Rattle.fixed_constants.specs.Inner.Known.{Knows}
use Rattle.fixed_constants.specs.declared.fault.ConstantFault.{ConstantFault}
use Rattle.fixed_constants.proofs.constants.read_constants.Given as goal

abbrev pub invariant-loop-rest : goal.invariant-loop-rest
invariant-loop-rest l = record {
  done : List (List ℕ);
  count : l.number ≡ length done;
  room : l.number + length l.rest ≤ length l.text;
  knows : Knows done l.known;
  declare : (more : List ConstantParts) → Declare done (lines l.rest) more → IsConstantsOf l.text (l.entries.items ++ more);
  fail : (p : ℕ) (fault : ConstantFault) → FailAt done (lines l.rest) p fault → IsFaultOf l.text p fault;
}

abbrev pub decreases-loop-rest : goal.decreases-loop-rest
decreases-loop-rest l = length l.rest
