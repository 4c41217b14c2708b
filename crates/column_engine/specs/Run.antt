-- What a run over a text leaves.
use Rattle.std.specs.Prelude.{false, ◌≡◌, ◌⊎◌, ◌≤◌, ◌++◌, ℕ, Bool, List, [], length, map}
use Rattle.std.specs.Prelude.{Option, Some, None}
use Rattle.std.specs.Io.KnownBytes.{Appends, Consumes, IsAtEnd}
use Rattle.csv.specs.Reading.{strip_bom}
use Rattle.line_engine.specs.AnswerText.{AnswerText}
use Rattle.line_engine.specs.Appended.{AppendsPrefix}
use Rattle.line_engine.specs.Failures.{HasFailed}
use Rattle.column_engine.specs.Answers.{AnswersRow, AnswersRows, State, name_of}
use Rattle.column_engine.specs.Feeding.{FeedsRows, IsTooLong}
use Rattle.column_engine.specs.Rows.{AreEnded, IsEnded, IsLast, IsUnended, Row, places_after}
use Rattle.column_engine.specs.Rows.{row_text, rows_text}
use Rattle.column_engine.specs.Steps.{IsRowPart, IsUnanswered, SameCounts}
use Rattle.column_engine.specs.declared.columns.Column.{Column}
use Rattle.column_engine.specs.declared.columns.Column.TheVariants.{At, Named}
use Rattle.column_engine.specs.declared.columns.Range.{Range}
use Rattle.column_engine.specs.declared.columns.Destination.{Destination}
use Rattle.column_engine.specs.declared.columns.Keeping.{Keeping}
use Rattle.column_engine.specs.declared.end.ColumnEnd.{ColumnEnd}
use Rattle.column_engine.specs.declared.end.Stop.{Stop}
use Rattle.column_engine.specs.declared.end.Stop.TheVariants.{Done, NoColumn, NoMemory, NoName, ReadFault, TooLong}
use Rattle.column_engine.specs.declared.end.Stop.TheVariants.{Unclosed, WriteFault}
use Rattle.column_engine.specs.declared.place.Place.TheVariants.{Quoted, Start}
use Rattle.column_engine.specs.Limits.{longest_record, longest_text}

-- the columns that an operand means without a header; a name that is not a number means the first column until a header
-- is read
abbrev pub first_range : Column → Range
first_range (At range) = range
first_range (Named name (Some range)) = range
first_range (Named name None) = record { from = 0; to = 0 }

-- the state before the first record
abbrev pub first_state : Bool → Destination → List Column → State
first_state headed destination columns = record {
  headed = headed;
  asked = map first_range columns;
  into = name_of destination;
  answered = 0;
  refused = 0;
  first = 0;
}

-- the counts at the end of a run
abbrev pub counts_of : ColumnEnd → State
counts_of end = record {
  headed = false;
  asked = [];
  into = None;
  answered = end.answered;
  refused = end.refused;
  first = end.first;
}

-- the next record of the bytes `rest`: one that ended or, at the end of the input, the last one
abbrev pub IsNext : ℕ → Row → List ℕ → Option (List ℕ) → Type 0
IsNext delimiter row rest left =
    ((more : List ℕ) × (rest ≡ row_text row ++ more) × IsEnded delimiter row) ⊎ (IsAtEnd left × (rest ≡ row.body)
    × IsLast delimiter row)

-- the last record was answered, if there is one
abbrev pub AnswersLast : (List ℕ → AnswerText → Type 0) → Keeping → ℕ → List Column → State → List ℕ → List ℕ → State
    → Type 0
AnswersLast A keeps delimiter columns s rest part u =
    ((rest ≡ []) × (part ≡ []) × SameCounts s u)
    ⊎ ((row : Row) × (rest ≡ row.body) × IsLast delimiter row × (t : State) × AnswersRow A keeps delimiter columns s
    row part t × SameCounts t u)

-- part of the next record was to be written, or all of it, or nothing
abbrev pub WritesNext : (List ℕ → AnswerText → Type 0) → Keeping → ℕ → List Column → State → List ℕ → Option (List ℕ)
    → List ℕ → State → Type 0
WritesNext A keeps delimiter columns s rest left part u =
    ((part ≡ []) × SameCounts s u)
    ⊎ ((row : Row) × IsNext delimiter row rest left × ((IsRowPart A keeps delimiter columns s row part × SameCounts s u)
    ⊎ ((t : State) × AnswersRow A keeps delimiter columns s row part t × SameCounts t u)))

-- the next record was not answered, for this reason, and nothing was written for it
abbrev pub RefusesNext : Stop → ℕ → List Column → State → List ℕ → Option (List ℕ) → List ℕ → State → Type 0
RefusesNext stop delimiter columns s rest left part u =
    (row : Row) × IsNext delimiter row rest left × IsUnanswered stop delimiter columns s row × (part ≡ [])
    × SameCounts s u

-- why no more records were answered of the bytes `rest`, and what was to be written of the next record
abbrev pub Ends : Stop → (List ℕ → AnswerText → Type 0) → Keeping → ℕ → List Column → State → List ℕ → Option (List ℕ)
    → List ℕ → State → Type 0
Ends Done A keeps delimiter columns s rest left part u = IsAtEnd left × AnswersLast A keeps delimiter columns s rest
    part u
Ends ReadFault A keeps delimiter columns s rest left part u = IsUnended delimiter Start rest × (part ≡ [])
    × SameCounts s u
Ends WriteFault A keeps delimiter columns s rest left part u = WritesNext A keeps delimiter columns s rest left part u
Ends NoMemory A keeps delimiter columns s rest left part u = ⊥
Ends TooLong A keeps delimiter columns s rest left part u = IsTooLong delimiter rest × (part ≡ []) × SameCounts s u
Ends Unclosed A keeps delimiter columns s rest left part u =
    IsAtEnd left × IsUnended delimiter Start rest × (places_after delimiter Start rest ≡ Quoted)
    × (length rest ≤ longest_record) × (part ≡ []) × SameCounts s u
Ends (NoColumn count) A keeps delimiter columns s rest left part u = RefusesNext (NoColumn count) delimiter columns s
    rest left part u
Ends NoName A keeps delimiter columns s rest left part u = RefusesNext NoName delimiter columns s rest left part u

-- all of a text was written or, if a write failed, a prefix of it
abbrev pub Writes : Stop → Option (List ℕ) → Option (List ℕ) → List ℕ → Type 0
Writes WriteFault old new text = AppendsPrefix old new text
Writes Done old new text = Appends old new text
Writes ReadFault old new text = Appends old new text
Writes NoMemory old new text = Appends old new text
Writes TooLong old new text = Appends old new text
Writes Unclosed old new text = Appends old new text
Writes (NoColumn count) old new text = Appends old new text
Writes NoName old new text = Appends old new text

-- the first records of these bytes were answered, after `before` was written, and no more
pub record StopsText (stop : Stop) (A : List ℕ → AnswerText → Type 0) (keeps : Keeping) (delimiter : ℕ) (columns : List
    Column) (before bytes : List ℕ) (s u : State)
    (left written written' : Option (List ℕ)) : Type 0 where
  pub rows : List Row
  pub rest : List ℕ
  pub split : bytes ≡ rows_text rows ++ rest
  pub ended : AreEnded delimiter rows
  pub text : List ℕ
  pub between : State
  pub answers : AnswersRows A keeps delimiter columns s rows text between
  pub part : List ℕ
  pub ends : Ends stop A keeps delimiter columns between rest left part u
  pub output : Writes stop written written' (before ++ (text ++ part))

-- a byte order mark, if the bytes taken start with one, was written, and the first records after it were answered, and
-- no more
pub record RunsText (stop : Stop) (A : List ℕ → AnswerText → Type 0) (keeps : Keeping) (delimiter : ℕ) (columns : List
    Column) (s u : State)
    (left left' written written' : Option (List ℕ)) : Type 0 where
  pub bytes : List ℕ
  pub taken : Consumes left left' bytes
  pub mark : List ℕ
  pub mark_is : bytes ≡ mark ++ strip_bom bytes
  pub stops : StopsText stop A keeps delimiter columns mark (strip_bom bytes) s u left' written written'

-- a byte order mark, if the bytes taken start with one, was written, and the records after it that ended were answered
pub record RunsSoFar (A : List ℕ → AnswerText → Type 0) (keeps : Keeping) (delimiter : ℕ) (columns : List Column)
    (rest : List ℕ) (s t : State)
    (left left' written written' : Option (List ℕ)) : Type 0 where
  pub bytes : List ℕ
  pub taken : Consumes left left' bytes
  pub mark : List ℕ
  pub mark_is : bytes ≡ mark ++ strip_bom bytes
  pub between : Option (List ℕ)
  pub marked : Appends written between mark
  pub fed : FeedsRows A keeps delimiter columns (strip_bom bytes) rest s t [] [] between written'

-- the same, and no more bytes can complete a byte order mark at the start
pub record RunsOn (A : List ℕ → AnswerText → Type 0) (keeps : Keeping) (delimiter : ℕ) (columns : List Column) (rest :
    List ℕ) (s t : State)
    (left left' written written' : Option (List ℕ)) : Type 0 where
  pub so_far : RunsSoFar A keeps delimiter columns rest s t left left' written written'
  pub goes_on : (more : List ℕ) → strip_bom (so_far.bytes ++ more) ≡ strip_bom so_far.bytes ++ more

-- a text without an end in the bytes taken, which are at least as many as the longest text has
pub record IsEndless (stop : Stop) (A : List ℕ → AnswerText → Type 0) (keeps : Keeping) (delimiter : ℕ) (columns : List
    Column) (s u : State)
    (left left' written written' : Option (List ℕ)) : Type 0 where
  pub is_long : stop ≡ TooLong
  pub rest : List ℕ
  pub t : State
  pub counts : SameCounts t u
  pub so_far : RunsSoFar A keeps delimiter columns rest s t left left' written written'
  pub many : longest_text ≤ length so_far.bytes

-- what a run with this end and these counts took and wrote
abbrev pub HasRun : Stop → (List ℕ → AnswerText → Type 0) → Keeping → ℕ → List Column → State → State → Option (List ℕ)
    → Option (List ℕ)
    → Option (List ℕ) → Option (List ℕ) → Type 0
HasRun stop A keeps delimiter columns s u left left' written written' =
    RunsText stop A keeps delimiter columns s u left left' written written' ⊎ IsEndless stop A keeps delimiter columns
    s u left left' written written'

-- which counts of failures, of the source and of the sink, rose in a run with this end
abbrev pub HasFailures : ℕ → ℕ → ℕ → ℕ → Stop → Type 0
HasFailures read read' write write' Done = (read' ≡ read) × (write' ≡ write)
HasFailures read read' write write' ReadFault = HasFailed read read' × (write' ≡ write)
HasFailures read read' write write' WriteFault = (read' ≡ read) × HasFailed write write'
HasFailures read read' write write' NoMemory = (read' ≡ read) × (write' ≡ write)
HasFailures read read' write write' TooLong = (read' ≡ read) × (write' ≡ write)
HasFailures read read' write write' Unclosed = (read' ≡ read) × (write' ≡ write)
HasFailures read read' write write' (NoColumn count) = (read' ≡ read) × (write' ≡ write)
HasFailures read read' write write' NoName = (read' ≡ read) × (write' ≡ write)
