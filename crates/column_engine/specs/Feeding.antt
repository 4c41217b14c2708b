-- The effect of the next bytes of a text on the records answered and the bytes kept.
use Rattle.std.specs.Prelude.{◌≡◌, ◌<◌, ◌+◌, ◌++◌, ℕ, List, [], length, take}
use Rattle.std.specs.declared.option.Option.{Option}
use Rattle.line_engine.specs.AnswerText.{AnswerText}
use Rattle.line_engine.specs.Inner.Progress.{Flushes}
use Rattle.column_engine.specs.Answers.{AnswersRows, State}
use Rattle.column_engine.specs.Rows.{AreEnded, IsEnded, IsUnended, Row, places_after, row_text, rows_text}
use Rattle.column_engine.specs.Steps.{SameCounts, IsUnanswered, IsRowPart}
use Rattle.column_engine.specs.declared.columns.Column.{Column}
use Rattle.column_engine.specs.declared.columns.Keeping.{Keeping}
use Rattle.column_engine.specs.declared.end.Stop.{Stop}
use Rattle.column_engine.specs.declared.end.Stop.TheVariants.{Done, NoColumn, NoMemory, NoName, ReadFault, TooLong}
use Rattle.column_engine.specs.declared.end.Stop.TheVariants.{Unclosed, WriteFault}
use Rattle.column_engine.specs.declared.place.Place.{Place}
use Rattle.column_engine.specs.declared.place.Place.TheVariants.{Start}
use Rattle.column_engine.specs.Limits.{longest_record}

-- `kept` are the bytes of a record that has not ended, and `place` is the place after them
pub record IsStanding (delimiter : ℕ) (kept : List ℕ) (place : Place) : Type 0 where
  pub unended : IsUnended delimiter Start kept
  pub place_is : place ≡ places_after delimiter Start kept

-- the records that end in these bytes were answered, and the rest of the bytes is kept
pub record FeedsRows (A : List ℕ → AnswerText → Type 0) (keeps : Keeping) (delimiter : ℕ) (columns : List Column) (bytes
    rest : List ℕ) (s t : State)
    (held held' : List ℕ) (written written' : Option (List ℕ)) : Type 0 where
  pub rows : List Row
  pub split : bytes ≡ rows_text rows ++ rest
  pub ended : AreEnded delimiter rows
  pub text : List ℕ
  pub answers : AnswersRows A keeps delimiter columns s rows text t
  pub gathered : Flushes held text held' written written'

-- the bytes are longer than the longest record, and no record ends within that length
pub record IsTooLong (delimiter : ℕ) (bytes : List ℕ) : Type 0 where
  pub many : longest_record < length bytes
  pub unended : IsUnended delimiter Start (take (longest_record + 1) bytes)

-- these bytes start with a record that ended
pub record BeginsWith (delimiter : ℕ) (row : Row) (bytes : List ℕ) : Type 0 where
  pub rest : List ℕ
  pub split : bytes ≡ row_text row ++ rest
  pub ended : IsEnded delimiter row

-- why no more records were answered of these bytes, and what was to be written of the next record
abbrev pub StopsAt : Stop → (List ℕ → AnswerText → Type 0) → Keeping → ℕ → List Column → State → List ℕ → List ℕ
    → Type 0
StopsAt TooLong A keeps delimiter columns s bytes part = IsTooLong delimiter bytes × (part ≡ [])
StopsAt (NoColumn count) A keeps delimiter columns s bytes part =
    (row : Row) × BeginsWith delimiter row bytes × IsUnanswered (NoColumn count) delimiter columns s row × (part ≡ [])
StopsAt NoName A keeps delimiter columns s bytes part =
    (row : Row) × BeginsWith delimiter row bytes × IsUnanswered NoName delimiter columns s row × (part ≡ [])
StopsAt WriteFault A keeps delimiter columns s bytes part =
    (row : Row) × BeginsWith delimiter row bytes × IsRowPart A keeps delimiter columns s row part
StopsAt Done A keeps delimiter columns s bytes part = ⊥
StopsAt ReadFault A keeps delimiter columns s bytes part = ⊥
StopsAt NoMemory A keeps delimiter columns s bytes part = ⊥
StopsAt Unclosed A keeps delimiter columns s bytes part = ⊥

-- all of these bytes are gathered, unless a write failed
abbrev pub IsLeft : Stop → List ℕ → List ℕ → Type 0
IsLeft WriteFault left held = Unit {0}
IsLeft TooLong left held = left ≡ held
IsLeft (NoColumn count) left held = left ≡ held
IsLeft NoName left held = left ≡ held
IsLeft Done left held = ⊥
IsLeft ReadFault left held = ⊥
IsLeft NoMemory left held = ⊥
IsLeft Unclosed left held = ⊥

-- the first of the records that end in these bytes were answered, and no more
pub record FailsFeed (stop : Stop) (A : List ℕ → AnswerText → Type 0) (keeps : Keeping) (delimiter : ℕ) (columns : List
    Column) (bytes : List ℕ) (s t : State)
    (held held' : List ℕ) (written written' : Option (List ℕ)) : Type 0 where
  pub rest : List ℕ
  pub between : State
  pub part : List ℕ
  pub stops : StopsAt stop A keeps delimiter columns between rest part
  pub counts : SameCounts between t
  pub left : List ℕ
  pub is_left : IsLeft stop left held'
  pub rows : List Row
  pub split : bytes ≡ rows_text rows ++ rest
  pub ended : AreEnded delimiter rows
  pub text : List ℕ
  pub answers : AnswersRows A keeps delimiter columns s rows text between
  pub gathered : Flushes held (text ++ part) left written written'
