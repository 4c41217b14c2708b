-- The end of the last numeral that a scan has passed.
use Rattle.std.specs.Prelude.{◌≡◌, ℕ, ◌⊎◌}
use Rattle.fixed_numeral.specs.declared.error.ParseErrorKind.{ParseErrorKind}
use Rattle.fixed_numeral.specs.declared.scanner.State.{State}
use Rattle.fixed_numeral.specs.Inner.Scan.{IsComplete, IsIncomplete}

-- the end of the last numeral moves to `at` if nothing is missing there, else it stays at `last`
abbrev pub IsLastAfter : State → ℕ → ℕ → ℕ → Type 0
IsLastAfter s at last next = (IsComplete s × (next ≡ at))
    ⊎ ((kind : ParseErrorKind) × IsIncomplete s kind × (next ≡ last))
