use Rattle.std.proofs.Common.{◌≡◌, false, ◌++◌, ◌∷◌, [], List, length, take, drop}
use Rattle.fixed_numeral.specs.declared.radix.Radix.{Radix}
use Rattle.fixed_error.specs.Errors.{AreLengthErrors}
use Rattle.fixed_error.specs.Greatest.{Entry}
use Rattle.fixed_error.specs.Inner.Rest.{IsRest}
use Rattle.fixed_error.proofs.errors.GreatestErrors.add_rest.Given as goal

abbrev pub invariant-loop-error : goal.invariant-loop-error
invariant-loop-error g l = record {
  rest : IsRest l.fn.self.radix l.error-index l.numeral l.rest;
  same : l.is_changed ≡ false → l.error-items ≡ l.initial.error-items;
  long : length l.error-items ≡ length l.initial.error-items;
  left : drop l.error-index l.error-items ≡ drop l.error-index l.initial.error-items;
  done : (r : Radix) (entries : List Entry) → AreLengthErrors r 0 entries l.initial.error-items → AreLengthErrors r 0 (entries ++ record { place = l.place; numeral = l.numeral } ∷ []) (take l.error-index l.error-items);
}
