-- Lines passed over at the start of a text, and the run over the rest.
use Rattle.std.specs.Prelude.{◌==◌, ◌≡◌, ◌⊎◌, ◌+◌, ◌-◌, ◌<◌, ◌≤◌, ◌++◌, ℕ, List, [], ◌∷◌, get_or, length}
use Rattle.std.specs.Prelude.{if◌then◌else◌}
use Rattle.std.specs.declared.option.Option.{Option}
use Rattle.std.specs.Io.KnownBytes.{Appends, Consumes, IsAtEnd}
use Rattle.line_engine.specs.AnswerText.{AnswerText}
use Rattle.column_engine.specs.Answers.{State}
use Rattle.column_engine.specs.Run.{HasRun, Writes}
use Rattle.column_engine.specs.Steps.{SameCounts}
use Rattle.column_engine.specs.declared.columns.Column.{Column}
use Rattle.column_engine.specs.declared.columns.Keeping.{Keeping}
use Rattle.column_engine.specs.declared.end.Stop.{Stop}
use Rattle.column_engine.specs.declared.end.Stop.TheVariants.{Done, NoColumn, NoMemory, NoName, ReadFault, TooLong}
use Rattle.column_engine.specs.declared.end.Stop.TheVariants.{Unclosed, WriteFault}
use Rattle.column_engine.specs.Limits.{longest_text}

-- the count of newlines
abbrev pub newlines : List ℕ → ℕ
newlines [] = 0
newlines (byte ∷ bytes) = (if byte == 10 then 1 else 0) + newlines bytes

-- the bytes are empty or end with a newline
abbrev pub AreWhole : List ℕ → Type 0
AreWhole bytes = (bytes ≡ []) ⊎ (get_or bytes (length bytes - 1) 0 ≡ 10)

-- the first `count` lines of a text, each with its newline, or all of a text with fewer newlines
abbrev pub AreFirst : ℕ → List ℕ → Option (List ℕ) → Type 0
AreFirst count bytes left = ((newlines bytes ≡ count) × AreWhole bytes) ⊎ ((newlines bytes < count) × IsAtEnd left)

-- the first lines of a text were taken, and written unchanged
pub record PassesLines (count : ℕ) (left left' written written' : Option (List ℕ)) : Type 0 where
  pub bytes : List ℕ
  pub taken : Consumes left left' bytes
  pub wrote : Appends written written' bytes
  pub first : AreFirst count bytes left'

-- why not all of the first lines of a text were passed over, for the bytes taken and those written or to be written: a
-- read failed, and all but bytes of an unended line were written; a write failed; or the lines have no end
abbrev pub IsLineStop : Stop → List ℕ → List ℕ → Type 0
IsLineStop ReadFault bytes shown = (rest : List ℕ) × (bytes ≡ shown ++ rest) × (newlines rest ≡ 0)
IsLineStop WriteFault bytes shown = shown ≡ bytes
IsLineStop TooLong bytes shown = (longest_text ≤ length bytes) × (shown ≡ bytes)
IsLineStop Done bytes shown = ⊥
IsLineStop NoMemory bytes shown = ⊥
IsLineStop Unclosed bytes shown = ⊥
IsLineStop (NoColumn count) bytes shown = ⊥
IsLineStop NoName bytes shown = ⊥

-- not all of the first lines of a text were passed over
pub record StopsLines (stop : Stop) (count : ℕ) (left left' written written' : Option (List ℕ)) : Type 0 where
  pub bytes : List ℕ
  pub taken : Consumes left left' bytes
  pub few : newlines bytes ≤ count
  pub shown : List ℕ
  pub why : IsLineStop stop bytes shown
  pub output : Writes stop written written' shown

-- what a run with this end and these counts took and wrote: the first lines unchanged, then the run over the text after
-- them
abbrev pub HasRunAfter : ℕ → Stop → (List ℕ → AnswerText → Type 0) → Keeping → ℕ → List Column → State → State
    → Option (List ℕ) → Option (List ℕ) → Option (List ℕ) → Option (List ℕ) → Type 0
HasRunAfter count stop A keeps delimiter columns s u left left' written written' =
    (StopsLines stop count left left' written written' × SameCounts s u)
    ⊎ ((between : Option (List ℕ)) × (shown : Option (List ℕ)) × PassesLines count left between written shown
    × HasRun stop A keeps delimiter columns s u between left' shown written')
