-- How far a text was answered, and why no further.
use Rattle.std.specs.Prelude.{◌≡◌, ◌≢◌, ◌⊎◌, ◌<◌, ◌≤◌, ◌++◌, ℕ, true, false, List, [], length}
use Rattle.std.specs.Prelude.{None, Result, OnOk, IfErr}
use Rattle.std.specs.declared.option.Option.{Option}
use Rattle.line_engine.specs.AnswerText.{AnswerText}
use Rattle.line_engine.specs.Failures.{HasFailed}
use Rattle.line_engine.specs.Inner.Progress.{Flushes}
use Rattle.column_engine.specs.Answers.{AnswersRow, AnyMissing, AreAnswers, AreFound, FieldAnswer, State}
use Rattle.column_engine.specs.Answers.{answers_text, name_of, needed}
use Rattle.column_engine.specs.Rows.{Row, field_texts, raw_fields}
use Rattle.column_engine.specs.declared.columns.Column.{Column}
use Rattle.column_engine.specs.declared.columns.Keeping.{Keeping}
use Rattle.column_engine.specs.declared.columns.Range.{Range}
use Rattle.column_engine.specs.declared.end.Stop.{Stop}
use Rattle.column_engine.specs.declared.end.Stop.TheVariants.{Done, NoColumn, NoMemory, NoName, ReadFault, TooLong}
use Rattle.column_engine.specs.declared.end.Stop.TheVariants.{Unclosed, WriteFault}
use Rattle.column_engine.specs.declared.place.Place.TheVariants.{Start}
use Rattle.column_engine.specs.Limits.{longest_record}
use Rattle.column_engine.specs.declared.row.Progress.{Progress}

-- the count of failures rose if a write failed, and is otherwise unchanged
abbrev pub HasRisen : ℕ → ℕ → Stop → Type 0
HasRisen before now WriteFault = HasFailed before now
HasRisen before now (NoColumn count) = now ≡ before
HasRisen before now NoName = now ≡ before
HasRisen before now Done = now ≡ before
HasRisen before now ReadFault = now ≡ before
HasRisen before now NoMemory = now ≡ before
HasRisen before now TooLong = now ≡ before
HasRisen before now Unclosed = now ≡ before

-- the visible state of a progress
abbrev pub state_of : Progress → State
state_of p = record {
  headed = p.is_headed;
  asked = p.asked.items;
  into = name_of p.destination.now;
  answered = p.answered;
  refused = p.refused;
  first =
      p.first;
}

-- the record lacks a requested column: it has only `count` fields
pub record LacksColumn (delimiter : ℕ) (asked : List Range) (row : Row) (count : ℕ) : Type 0 where
  pub count_is : count ≡ length (raw_fields delimiter Start row.body)
  pub few : count < needed asked

-- not an empty line, and at most as long as the longest record
pub record IsRecord (row : Row) : Type 0 where
  pub some : row.body ≢ []
  pub short : length row.body ≤ longest_record

-- why a record was not answered
abbrev pub IsUnanswered : Stop → ℕ → List Column → State → Row → Type 0
IsUnanswered (NoColumn count) delimiter columns s row =
    IsRecord row × (((s.headed ≡ false) × LacksColumn delimiter s.asked row count)
    ⊎ ((s.headed ≡ true) × ((found : List Range) × AreFound (field_texts delimiter row.body) columns found
    × LacksColumn delimiter found row count)))
IsUnanswered NoName delimiter columns s row = IsRecord row × (s.headed ≡ true)
    × AnyMissing (field_texts delimiter row.body) columns
IsUnanswered Done delimiter columns s row = ⊥
IsUnanswered ReadFault delimiter columns s row = ⊥
IsUnanswered WriteFault delimiter columns s row = ⊥
IsUnanswered NoMemory delimiter columns s row = ⊥
IsUnanswered TooLong delimiter columns s row = ⊥
IsUnanswered Unclosed delimiter columns s row = ⊥

-- a header that has the columns
pub record IsHeader (delimiter : ℕ) (columns : List Column) (body : List ℕ) (found : List Range) : Type 0 where
  pub are_found : AreFound (field_texts delimiter body) columns found
  pub enough : needed found ≤ length (raw_fields delimiter Start body)

-- a header that lacks one of the columns
abbrev pub IsNoHeader : Stop → ℕ → List Column → List ℕ → Type 0
IsNoHeader (NoColumn count) delimiter columns body =
    (found : List Range) × AreFound (field_texts delimiter body) columns found × LacksColumn delimiter found (record {
      body = body;
      end = [];
    }) count
IsNoHeader NoName delimiter columns body = AnyMissing (field_texts delimiter body) columns
IsNoHeader Done delimiter columns body = ⊥
IsNoHeader ReadFault delimiter columns body = ⊥
IsNoHeader WriteFault delimiter columns body = ⊥
IsNoHeader NoMemory delimiter columns body = ⊥
IsNoHeader TooLong delimiter columns body = ⊥
IsNoHeader Unclosed delimiter columns body = ⊥

-- only the requested columns changed
pub record SameButAsked (old new : Progress) : Type 0 where
  pub headed : new.is_headed ≡ old.is_headed
  pub answered : new.answered ≡ old.answered
  pub refused : new.refused ≡ old.refused
  pub first : new.first ≡ old.first
  pub as_many : length new.asked.items ≡ length old.asked.items
  pub destination : new.destination.now ≡ old.destination.now

-- the counts are unchanged
pub record SameCounts (old new : State) : Type 0 where
  pub answered : new.answered ≡ old.answered
  pub refused : new.refused ≡ old.refused
  pub first : new.first ≡ old.first

-- a count of failures rose if and only if a write failed
pub record RisesOnly (before now : ℕ) (result : Result (Unit {0}) Stop) : Type 0 where
  pub same : OnOk result (now ≡ before)
  pub stops : IfErr result (λ stop. HasRisen before now stop)

-- the answers to the first fields of a record
pub record IsPartOfFields (A : List ℕ → AnswerText → Type 0) (keeps : Keeping) (delimiter : ℕ) (asked : List Range)
    (raws : List (List ℕ)) (text : List ℕ) : Type 0 where
  pub some : List (List ℕ)
  pub more : List (List ℕ)
  pub cut : raws ≡ some ++ more
  pub answers : List FieldAnswer
  pub are : AreAnswers A keeps delimiter asked 0 some answers
  pub text_is : text ≡ answers_text delimiter 0 answers

-- what was to be written for a record, or for its first fields
abbrev pub IsRowPart : (List ℕ → AnswerText → Type 0) → Keeping → ℕ → List Column → State → Row → List ℕ → Type 0
IsRowPart A keeps delimiter columns s row text =
    ((t : State) × AnswersRow A keeps delimiter columns s row text t)
    ⊎ ((s.headed ≡ false) × (s.into ≡ None) × (row.body ≢ []) × IsPartOfFields A keeps delimiter s.asked (raw_fields
    delimiter Start row.body) text)

-- a record was answered
pub record PassesRow (A : List ℕ → AnswerText → Type 0) (keeps : Keeping) (delimiter : ℕ) (columns : List Column) (row :
    Row) (s t : State)
    (held held' : List ℕ) (written written' : Option (List ℕ)) : Type 0 where
  pub text : List ℕ
  pub answer : AnswersRow A keeps delimiter columns s row text t
  pub gathered : Flushes held text held' written written'

-- the answer to a record, or part of it, was to be written when a write failed
pub record FailsRow (A : List ℕ → AnswerText → Type 0) (keeps : Keeping) (delimiter : ℕ) (columns : List Column) (row :
    Row) (s : State)
    (held : List ℕ) (written written' : Option (List ℕ)) : Type 0 where
  pub text : List ℕ
  pub part : IsRowPart A keeps delimiter columns s row text
  pub left : List ℕ
  pub gathered : Flushes held text left written written'

abbrev pub StopsRow : Stop → (List ℕ → AnswerText → Type 0) → Keeping → ℕ → List Column → Row → State → List ℕ → List ℕ
    → Option (List ℕ) → Option (List ℕ) → Type 0
StopsRow WriteFault A keeps delimiter columns row s held held' written written' = FailsRow A keeps delimiter columns
    row s held written written'
StopsRow (NoColumn count) A keeps delimiter columns row s held held' written written' =
    IsUnanswered (NoColumn count) delimiter columns s row × (held' ≡ held) × (written' ≡ written)
StopsRow NoName A keeps delimiter columns row s held held' written written' =
    IsUnanswered NoName delimiter columns s row × (held' ≡ held) × (written' ≡ written)
StopsRow Done A keeps delimiter columns row s held held' written written' = ⊥
StopsRow ReadFault A keeps delimiter columns row s held held' written written' = ⊥
StopsRow NoMemory A keeps delimiter columns row s held held' written written' = ⊥
StopsRow TooLong A keeps delimiter columns row s held held' written written' = ⊥
StopsRow Unclosed A keeps delimiter columns row s held held' written written' = ⊥
