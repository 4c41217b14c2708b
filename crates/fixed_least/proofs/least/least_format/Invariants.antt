use Rattle.std.proofs.Common.{◌≡◌, ◌+◌, ◌≤◌, ◌++◌, ℕ, List, get_or, length}
use Rattle.fixed_bits.specs.Formats.{FormatParts, IsTypeFormat}
use Rattle.line_engine.specs.Lines.{lines}
use Rattle.fixed_least.specs.Holding.{AllNumerals}
use Rattle.fixed_least.specs.Inner.Slots.{AreLiving, slot_of}
use Rattle.fixed_least.proofs.ListLemmas.{NotedSoFar}
use Rattle.fixed_least.proofs.least.least_format.Given as goal

abbrev pub invariant-loop-rest : goal.invariant-loop-rest
invariant-loop-rest g l = record {
  done : List (List ℕ);
  split : lines l.text ≡ done ++ lines l.rest;
  count : l.place ≡ length done;
  room : l.place + length l.rest ≤ length l.text;
  numerals : AllNumerals l.radix done;
  living : AreLiving l.slots l.lows l.highs;
  noted : (f : FormatParts) → IsTypeFormat f.width f.frac → NotedSoFar l.radix f done (get_or l.slots (slot_of f) 0);
}

abbrev pub decreases-loop-rest : goal.decreases-loop-rest
decreases-loop-rest g l = length l.rest
