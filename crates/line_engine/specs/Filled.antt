-- How reading a whole input ends.
use Rattle.std.specs.Prelude.{◌≡◌, ◌+◌, ◌≤◌, ℕ, List, length}
use Rattle.std.specs.declared.option.Option.{Option}
use Rattle.std.specs.Io.KnownBytes.{Consumes, IsAtEnd}
use Rattle.line_engine.specs.Failures.{HasFailed}
use Rattle.line_engine.specs.declared.whole.Filled.{Filled}
use Rattle.line_engine.specs.declared.whole.Filled.TheVariants.{End, TooLong, ReadFault}

-- these bytes were taken from the source, and reading ended as the last argument says: at the end of an input within
-- the limit, one byte past the limit, or with a failed read
abbrev pub HasFilled : ℕ → Option (List ℕ) → Option (List ℕ) → ℕ → ℕ → List ℕ → Filled → Type 0
HasFilled limit left left' failures failures' bytes End = Consumes left left' bytes × IsAtEnd left'
    × (length bytes ≤ limit) × (failures' ≡ failures)
HasFilled limit left left' failures failures' bytes TooLong = Consumes left left' bytes × (length bytes ≡ limit + 1)
    × (failures' ≡ failures)
HasFilled limit left left' failures failures' bytes ReadFault = Consumes left left' bytes × (length bytes ≤ limit)
    × HasFailed failures failures'

-- some bytes were taken, at most one past the limit
pub record TakesWithin (limit : ℕ) (left left' : Option (List ℕ)) : Type 0 where
  pub bytes : List ℕ
  pub taken : Consumes left left' bytes
  pub bound : length bytes ≤ limit + 1
