-- The bytes written by a call that stopped early.
use Rattle.std.proofs.Common.{List, ℕ, [], ◌++◌, refl, sym, ap, ◌∙◌, append_assoc, append-nil, None, Some, subst}
use Rattle.std.proofs.KnownBytes.{Appends-trans, Appends-nil}
use Rattle.std.specs.Prelude.{Option, Result, Ok, Err, OnErr, OnOk}
use Rattle.std.specs.Io.KnownBytes.{Appends, Keeps}
use Rattle.line_engine.specs.Inner.Progress.{Flushes}
use Rattle.line_engine.specs.Output.{AppendsPrefix}

-- a prefix of the first piece was written
pub part_first : (a b : Option (List ℕ)) (bs cs : List ℕ) → AppendsPrefix a b bs → AppendsPrefix a b (bs ++ cs)
part_first a b bs cs part = record {
  prefix = part.prefix;
  rest = part.rest ++ cs;
  split = ap (λ l. l ++ cs) part.split ∙ append_assoc part.prefix part.rest cs;
  appends = part.appends;
}
