use Rattle.std.proofs.Common.{◌≡◌, ◌++◌, drop}
use Rattle.fixed_constants.specs.Canonical.{canonical_text}
use Rattle.fixed_constants.proofs.canonical.text_of.Given as goal

abbrev pub invariant-loop-i : goal.invariant-loop-i
invariant-loop-i l = canonical_text l.constants ≡ l.text.items ++ canonical_text (drop l.i l.constants)
