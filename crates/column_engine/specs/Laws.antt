-- Laws of the records of a text.
use Rattle.std.specs.Prelude.{◌≡◌, ◌≢◌, ◌⊎◌, ◌==◌, ◌<◌, ◌+◌, ◌-◌, ◌^◌, ◌++◌, ⊤, ℕ, Bool, true, false, List, []}
use Rattle.std.specs.Prelude.{◌∷◌, None, Option, Some, get_or, if◌then◌else◌, length}
use Rattle.csv.specs.Reading.{AreRecords, default_config}
use Rattle.csv.specs.declared.parser.Config.{Config}
use Rattle.csv.specs.declared.parser.State.TheVariants.{StartRecord}
use Rattle.line_engine.specs.AnswerText.{AnswerText}
use Rattle.column_engine.specs.Answers.{AnswersRow, AnswersRows, State, first_asked, is_asked, stays}
use Rattle.column_engine.specs.Rows.{AreEnded, IsEnded, IsLast, IsUnended, Row, field_texts, row_text, rows_text}
use Rattle.column_engine.specs.Run.{HasFailures}
use Rattle.column_engine.specs.Skip.{AreFirst, HasRunAfter}
use Rattle.column_engine.specs.Steps.{SameCounts}
use Rattle.column_engine.specs.declared.columns.Column.{Column}
use Rattle.column_engine.specs.declared.columns.Keeping.{Keeping}
use Rattle.column_engine.specs.declared.columns.Range.{Range}
use Rattle.column_engine.specs.declared.end.Stop.{Stop}
use Rattle.column_engine.specs.declared.end.Stop.TheVariants.{Done, NoMemory}
use Rattle.column_engine.specs.declared.place.Place.TheVariants.{Start}
use Rattle.column_engine.specs.Limits.{longest_text}

-- a byte that is not a quote and does not end a line
pub record IsDelimiter (delimiter : ℕ) : Type 0 where
  pub no_quote : delimiter ≢ 34
  pub no_newline : delimiter ≢ 10
  pub no_return : delimiter ≢ 13

-- the configuration of the kit's CSV reader for this delimiter
abbrev pub reads_with : ℕ → Config
reads_with delimiter = record default_config { delimiter = delimiter }

-- all of a text: records and empty lines that ended, except that the last record may have no end
abbrev pub AreRows : ℕ → List Row → Type 0
AreRows delimiter [] = ⊤
AreRows delimiter (row ∷ rows) = (IsEnded delimiter row × AreRows delimiter rows) ⊎ (IsLast delimiter row
    × (rows ≡ []))

-- the texts of the fields of each record, without the empty lines
abbrev pub records_of : ℕ → List Row → List (List (List ℕ))
records_of delimiter [] = []
records_of delimiter (row ∷ rows) =
    if length row.body == 0 then records_of delimiter rows
    else field_texts delimiter row.body ∷ records_of delimiter rows

-- the records of a text, by their places in it, are those that the kit's CSV reader reads
abbrev pub RecordsAreTheKits : Type 0
RecordsAreTheKits = (delimiter : ℕ) (rows : List Row) → IsDelimiter delimiter → AreRows delimiter rows
    → AreRecords (reads_with delimiter) StartRecord (rows_text rows) (records_of delimiter rows)

-- `new` is the reply to a requested field's text; an empty reply leaves the text as it was, and so does a refusal if
-- refused fields are kept
abbrev pub IsReplaced : (List ℕ → AnswerText → Type 0) → Keeping → Bool → List ℕ → List ℕ → Type 0
IsReplaced A keeps false text new = new ≡ text
IsReplaced A keeps true text new = (reply : AnswerText) × A text reply
    × (new ≡ (if stays keeps reply then text else reply.text))

-- `news` are these texts, from column `column` on, replaced in the requested columns only
abbrev pub AreReplaced : (List ℕ → AnswerText → Type 0) → Keeping → List Range → ℕ → List (List ℕ) → List (List ℕ)
    → Type 0
AreReplaced A keeps asked column [] [] = ⊤
AreReplaced A keeps asked column [] (new ∷ news) = ⊥
AreReplaced A keeps asked column (text ∷ texts) [] = ⊥
AreReplaced A keeps asked column (text ∷ texts) (new ∷ news) = IsReplaced A keeps (is_asked asked column) text new
    × AreReplaced A keeps asked (column + 1) texts news

-- `new` is the record with one more field, of this text
pub record IsLonger (delimiter : ℕ) (row new : Row) (text : List ℕ) : Type 0 where
  pub end : new.end ≡ row.end
  pub texts : field_texts delimiter new.body ≡ field_texts delimiter row.body ++ text ∷ []

-- the record written for a record: the header stays, or has the name of the new column as one more field; another
-- record has the replies in its fields, or one reply as one more field
abbrev pub IsRecordOf : (List ℕ → AnswerText → Type 0) → Keeping → ℕ → List Range → Bool → Option (List ℕ) → Row → Row
    → Type 0
IsRecordOf A keeps delimiter asked true None row new = new ≡ row
IsRecordOf A keeps delimiter asked true (Some name) row new = IsLonger delimiter row new name
IsRecordOf A keeps delimiter asked false None row new = (new.end ≡ row.end)
    × AreReplaced A keeps asked 0 (field_texts delimiter row.body) (field_texts delimiter new.body)
IsRecordOf A keeps delimiter asked false (Some name) row new = (text : List ℕ)
    × IsReplaced A keeps true (get_or (field_texts delimiter row.body) (first_asked asked) []) text
    × IsLonger delimiter row new text

-- an empty line stays as it is; another record is replaced
abbrev pub IsReplacedRow : (List ℕ → AnswerText → Type 0) → Keeping → ℕ → State → Row → Row → Type 0
IsReplacedRow A keeps delimiter s row new = ((row.body ≡ []) × (new ≡ row))
    ⊎ ((row.body ≢ []) × IsRecordOf A keeps delimiter s.asked s.headed s.into row new)

abbrev pub AreReplacedRows : (List ℕ → AnswerText → Type 0) → Keeping → ℕ → List Column → State → List Row → List Row
    → State → Type 0
AreReplacedRows A keeps delimiter columns s [] [] t = t ≡ s
AreReplacedRows A keeps delimiter columns s [] (new ∷ news) t = ⊥
AreReplacedRows A keeps delimiter columns s (row ∷ rows) [] t = ⊥
AreReplacedRows A keeps delimiter columns s (row ∷ rows) (new ∷ news) t = (between : State)
    × AnswersRow A keeps delimiter columns s row (row_text new) between × IsReplacedRow A keeps delimiter s row new
    × AreReplacedRows A keeps delimiter columns between rows news t

-- the output for the records of a text has as many records, with the same ends and the same fields, except that replies
-- replace fields or are one more field
abbrev pub FieldsAreReplaced : (List ℕ → AnswerText → Type 0) → Type 0
FieldsAreReplaced A = (keeps : Keeping) (delimiter : ℕ) (columns : List Column) (s t : State) (rows : List Row)
    (text : List ℕ) → IsDelimiter delimiter → AreRows delimiter rows
    → AnswersRows A keeps delimiter columns s rows text t
    → (news : List Row) × (text ≡ rows_text news) × AreRows delimiter news
    × AreReplacedRows A keeps delimiter columns s rows news t

-- by a rule with one reply for each text, records have at most one output and one state after them
abbrev pub AnswersAreTheOne : (List ℕ → AnswerText → Type 0) → Type 0
AnswersAreTheOne A = (keeps : Keeping) (delimiter : ℕ) (columns : List Column) (s : State) (rows : List Row)
    (a b : List ℕ) (t u : State) → AnswersRows A keeps delimiter columns s rows a t
    → AnswersRows A keeps delimiter columns s rows b u → (a ≡ b) × (t ≡ u)

-- the records that end in a text, and the bytes after the last of them, are determined
abbrev pub RowsAreTheOnes : Type 0
RowsAreTheOnes = (delimiter : ℕ) (text rest rest' : List ℕ) (rows rows' : List Row) → AreEnded delimiter rows
    → AreEnded delimiter rows' → IsUnended delimiter Start rest → IsUnended delimiter Start rest'
    → text ≡ rows_text rows ++ rest → text ≡ rows_text rows' ++ rest' → (rows ≡ rows') × (rest ≡ rest')

-- the lines that a run passes over, and the bytes after them, are determined
abbrev pub LinesAreTheOnes : Type 0
LinesAreTheOnes = (count : ℕ) (bytes bytes' rest rest' : List ℕ) → bytes ++ rest ≡ bytes' ++ rest'
    → AreFirst count bytes (Some rest) → AreFirst count bytes' (Some rest') → (bytes ≡ bytes') × (rest ≡ rest')

-- a run to the end of a text has at most one output, with its counts
abbrev pub OutputIsTheOne : (List ℕ → AnswerText → Type 0) → Type 0
OutputIsTheOne A = (skipped : ℕ) (keeps : Keeping) (delimiter : ℕ) (columns : List Column) (s t u : State)
    (input left left' before a b : List ℕ)
    → HasRunAfter skipped Done A keeps delimiter columns s t (Some input) (Some left) (Some before) (Some a)
    → HasRunAfter skipped Done A keeps delimiter columns s u (Some input) (Some left') (Some before) (Some b)
    → (a ≡ b) × SameCounts t u

-- the bytes taken and the counts of failures determine the end of a run over a text shorter than the longest, if the
-- counts can rise and memory sufficed
abbrev pub RunEndIsTheOne : (List ℕ → AnswerText → Type 0) → Type 0
RunEndIsTheOne A = (skipped : ℕ) (keeps : Keeping) (delimiter : ℕ) (columns : List Column) (s t u : State)
    (input left before a b : List ℕ) (read read' write write' : ℕ) (stop other : Stop) → length input < longest_text
    → read < 2 ^ 64 - 1 → write < 2 ^ 64 - 1 → stop ≢ NoMemory → other ≢ NoMemory
    → HasRunAfter skipped stop A keeps delimiter columns s t (Some input) (Some left) (Some before) (Some a)
    → HasFailures read read' write write' stop
    → HasRunAfter skipped other A keeps delimiter columns s u (Some input) (Some left) (Some before) (Some b)
    → HasFailures read read' write write' other → stop ≡ other
