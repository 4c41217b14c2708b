-- The report of a run that did not end well.
use Rattle.std.specs.Prelude.{◌≡◌, ◌==◌, ℕ, List, [], ◌∷◌, ◌++◌, codes, decimal, if◌then◌else◌}
use Rattle.std.specs.List.{count_by}
use Rattle.std.specs.declared.option.Option.{Option}
use Rattle.std.specs.Io.KnownBytes.{Keeps}
use Rattle.line_engine.specs.Run.{WritesText}
use Rattle.line_engine.specs.declared.status.Status.{Status}
use Rattle.line_engine.specs.declared.status.Status.TheVariants.{Done}

-- how many of the bytes are newlines
abbrev pub newlines_of : List ℕ → ℕ
newlines_of bytes = count_by (λ b. b == 10) bytes

-- the cause reported for an exit code; none for 0, 1 and 2
abbrev pub cause_of : ℕ → List ℕ
cause_of code = if code == 3 then codes "a read failed"
    else if code == 4 then codes "a write failed"
    else if code == 5 then codes "there is no memory"
    else if code == 6 then codes "the input is longer than the limit"
    else []

-- the line that reports where, why and after how many answered lines a run ended
abbrev pub end_line : List ℕ → List ℕ → ℕ → List ℕ
end_line place cause answered = place ++ codes ": " ++ cause ++ codes ", lines answered: " ++ decimal answered
    ++ 10 ∷ []

-- the line was written whole, or a write failed; without a cause nothing was written
abbrev pub TellsLine : List ℕ → List ℕ → ℕ → Option (List ℕ) → Option (List ℕ) → ℕ → ℕ → Type 0
TellsLine place [] answered written written' failures failures' = Keeps written written' × (failures' ≡ failures)
TellsLine place (c ∷ cs) answered written written' failures failures' = (status : Status)
    × WritesText (end_line place (c ∷ cs) answered) Done written written' failures failures' status

-- what was reported of a run with this exit code
abbrev pub TellsEnd : List ℕ → ℕ → ℕ → Option (List ℕ) → Option (List ℕ) → ℕ → ℕ → Type 0
TellsEnd place code answered written written' failures failures' = TellsLine place
    (cause_of code) answered written written' failures failures'
