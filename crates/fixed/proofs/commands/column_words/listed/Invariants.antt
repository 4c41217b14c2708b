use Rattle.std.proofs.Common.{map, take}
use Rattle.fixed.specs.Columns.{AreColumnWords}
use Rattle.fixed.proofs.commands.column_words.listed.Given as goal

abbrev pub invariant-parts : goal.invariant-parts
invariant-parts l = AreColumnWords l.has_header (map (λ s. s.now) (take l.at l.parts.items)) l.columns.items
