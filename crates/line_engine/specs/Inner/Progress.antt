-- Progress of the answers, between two chunks of an input.
use Rattle.std.specs.Prelude.{◌≡◌, ℕ, ◌+◌, List, [], ◌∷◌, ◌++◌, length, take}
use Rattle.std.specs.declared.option.Option.{Option}
use Rattle.std.specs.Io.KnownBytes.{Appends}
use Rattle.line_engine.specs.Lines.{ended_lines}

-- a prefix of the gathered bytes and of the new ones was written, and the rest is gathered
pub record Flushes (held more held' : List ℕ) (old new : Option (List ℕ)) : Type 0 where
  pub gone : List ℕ
  pub split : held ++ more ≡ gone ++ held'
  pub appends : Appends old new gone

-- how many bytes these lines have in total
abbrev pub bytes_in : List (List ℕ) → ℕ
bytes_in [] = 0
bytes_in (line ∷ lines) = length line + bytes_in lines

-- the first `n` bytes of an unended line are kept
pub record IsKept (n : ℕ) (whole kept : List ℕ) : Type 0 where
  pub quiet : ended_lines whole ≡ []
  pub prefix : kept ≡ take n whole
