-- What was gathered or written for a record so far.
use Rattle.std.specs.Prelude.{◌≡◌, ◌≤◌, ◌+◌, ◌-◌, ◌++◌, ℕ, Bool, List, [], ◌∷◌, true, false, drop, get_or, length}
use Rattle.std.specs.Prelude.{map, take}
use Rattle.std.specs.declared.option.Option.{Option}
use Rattle.line_engine.specs.AnswerText.{AnswerText}
use Rattle.line_engine.specs.Inner.Progress.{Flushes}
use Rattle.column_engine.specs.Answers.{AreAnswers, FieldAnswer, IsAnswer, answers_text, before_field, count_refused}
use Rattle.column_engine.specs.Answers.{first_asked}
use Rattle.column_engine.specs.Rows.{Row, raw_fields}
use Rattle.column_engine.specs.declared.answer.Shown.{Shown}
use Rattle.column_engine.specs.declared.answer.Shown.TheVariants.{Raw, Reply, Text}
use Rattle.column_engine.specs.declared.columns.Keeping.{Keeping}
use Rattle.column_engine.specs.declared.columns.Range.{Range}
use Rattle.column_engine.specs.declared.place.Place.TheVariants.{Start}

-- the output for an unrequested field
abbrev pub unanswered : List ℕ → FieldAnswer
unanswered raw = record { text = raw; refused = false }

-- this column only
abbrev pub only : ℕ → List Range
only column = record { from = column; to = column } ∷ []

-- the field in column `column` is the bytes from `start` to `end` of the record; the fields before it end at `start`,
-- and those after it begin at `end`
pub record IsFieldAt (delimiter : ℕ) (body : List ℕ) (column start end : ℕ) : Type 0 where
  pub ordered : start ≤ end
  pub within : end ≤ length body
  pub some : List (List ℕ)
  pub more : List (List ℕ)
  pub cut : raw_fields delimiter Start body ≡ some ++ take (end - start) (drop start body) ∷ more
  pub column_is : column ≡ length some
  pub before : take start body ≡ answers_text delimiter 0 (map unanswered some) ++ before_field delimiter column
  pub after : drop end body ≡ answers_text delimiter (column + 1) (map unanswered more)

-- the gathered bytes, followed by the bytes of a record from index `from` to `to`, which are still to be gathered
abbrev pub ahead : List ℕ → List ℕ → ℕ → ℕ → List ℕ
ahead held body from to = held ++ take (to - from) (drop from body)

-- the bytes written for a field: its own, the reply's, or the reply as a field
abbrev pub shown_bytes : Shown → List ℕ → List ℕ → List ℕ → List ℕ
shown_bytes Raw raw reply text = raw
shown_bytes Reply raw reply text = reply
shown_bytes Text raw reply text = text

-- the answer to a field was gathered
pub record GathersField (A : List ℕ → AnswerText → Type 0) (keeps : Keeping) (delimiter : ℕ) (asks : Bool)
    (raw : List ℕ) (refused : Bool)
    (held held' : List ℕ) (written written' : Option (List ℕ)) : Type 0 where
  pub text : List ℕ
  pub answer : IsAnswer A keeps delimiter asks raw (record { text = text; refused = refused })
  pub gathered : Flushes held text held' written written'

-- the answer to a requested field was gathered, after the bytes `before`
pub record GathersAnswer (A : List ℕ → AnswerText → Type 0) (keeps : Keeping) (delimiter : ℕ) (before raw : List ℕ)
    (refused : Bool)
    (held held' : List ℕ) (written written' : Option (List ℕ)) : Type 0 where
  pub text : List ℕ
  pub answer : IsAnswer A keeps delimiter true raw (record { text = text; refused = refused })
  pub gathered : Flushes held (before ++ text) held' written written'

-- the answers to these fields were gathered
pub record GathersFields (A : List ℕ → AnswerText → Type 0) (keeps : Keeping) (delimiter : ℕ) (asked : List Range)
    (column : ℕ) (raws : List (List ℕ)) (refused : ℕ)
    (held held' : List ℕ) (written written' : Option (List ℕ)) : Type 0 where
  pub answers : List FieldAnswer
  pub are : AreAnswers A keeps delimiter asked column raws answers
  pub refused_is : refused ≡ count_refused answers
  pub gathered : Flushes held (answers_text delimiter column answers) held' written written'

-- the answers to the first of these fields, or to all of them, were to be written when a write failed
pub record GathersPart (A : List ℕ → AnswerText → Type 0) (keeps : Keeping) (delimiter : ℕ) (asked : List Range) (raws :
    List (List ℕ))
    (held : List ℕ) (written written' : Option (List ℕ)) : Type 0 where
  pub some : List (List ℕ)
  pub more : List (List ℕ)
  pub cut : raws ≡ some ++ more
  pub refused : ℕ
  pub left : List ℕ
  pub fields : GathersFields A keeps delimiter asked 0 some refused held left written written'

-- a record with a new column was gathered
pub record GathersLonger (A : List ℕ → AnswerText → Type 0) (keeps : Keeping) (delimiter : ℕ) (asked : List Range)
    (row : Row) (refused : Bool) (held held' : List ℕ) (written written' : Option (List ℕ)) : Type 0 where
  pub text : List ℕ
  pub answer : IsAnswer A keeps delimiter true (get_or (raw_fields delimiter Start row.body) (first_asked asked) [])
      (record { text = text; refused = refused })
  pub gathered : Flushes held (row.body ++ delimiter ∷ text ++ row.end) held' written written'
