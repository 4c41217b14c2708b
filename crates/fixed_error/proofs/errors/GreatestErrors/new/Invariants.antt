use Rattle.std.proofs.Common.{◌≡◌, [], length}
use Rattle.fixed_error.specs.Errors.{AreLengthErrors}
use Rattle.fixed_error.proofs.errors.GreatestErrors.new.Given as goal

abbrev pub invariant-loop-frac : goal.invariant-loop-frac
invariant-loop-frac l = record {
  count : length l.errors.items ≡ l.frac;
  errors : AreLengthErrors l.radix 0 [] l.errors.items;
}
