use Rattle.std.proofs.Common.{◌<◌, ◌^◌, drop}
use Rattle.fixed_error.specs.Errors.{AreWordsWithin}
use Rattle.fixed_error.proofs.errors.are_surely_within.Given as goal

abbrev pub invariant-loop-error : goal.invariant-loop-error
invariant-loop-error l = record {
  below : l.rest < 10 ^ 18;
  left : AreWordsWithin l.rest (drop l.error-index l.errors) → AreWordsWithin l.word l.errors;
}
