use Rattle.std.proofs.Common.{◌≡◌, ◌++◌, map, take}
use Rattle.std.specs.String.{string_bytes}
use Rattle.command_line.specs.Words.{found_words}
use Rattle.command_line.proofs.given.Given.new.Given as goal

abbrev pub invariant-places : goal.invariant-places
invariant-places l = map (λ s. s.now) l.words.items ≡ found_words l.matches (take l.at l.operands)

abbrev pub invariant-after : goal.invariant-after
invariant-after l = map (λ s. s.now) l.words.items ≡ found_words l.fn.matches l.fn.operands ++ map string_bytes (take l.at l.after)
