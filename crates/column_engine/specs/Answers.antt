-- The output for the records of a text, some of whose columns a rule answers.
use Rattle.std.specs.Prelude.{◌==◌, ◌&&◌, ◌||◌, ◌≡◌, ◌≢◌, ◌⊎◌, ◌<◌, ◌≤◌, ◌+◌, ◌-◌, ◌^◌, ◌++◌, ⊤, ℕ, List}
use Rattle.std.specs.Prelude.{[], ◌∷◌, Bool, true, false, not, Option, Some, None, get_or, if◌then◌else◌, length, max}
use Rattle.std.specs.Prelude.{min, nat_le, string_bytes}
use Rattle.csv.specs.Writing.{default_writer, needs_quotes, quoted}
use Rattle.line_engine.specs.AnswerText.{AnswerText}
use Rattle.column_engine.specs.Rows.{Row, content, field_texts, raw_fields}
use Rattle.column_engine.specs.declared.columns.Column.{Column}
use Rattle.column_engine.specs.declared.columns.Column.TheVariants.{At, Named}
use Rattle.column_engine.specs.declared.columns.Destination.{Destination}
use Rattle.column_engine.specs.declared.columns.Destination.TheVariants.{InPlace, NewColumn}
use Rattle.column_engine.specs.declared.columns.Keeping.{Keeping}
use Rattle.column_engine.specs.declared.columns.Range.{Range}
use Rattle.column_engine.specs.declared.place.Place.TheVariants.{Start}
use Rattle.column_engine.specs.Limits.{longest_record}

-- ---- the requested columns

-- whether a range contains a column
abbrev pub is_within : ℕ → Range → Bool
is_within column range = nat_le range.from column && nat_le column range.to

-- whether one of these ranges contains a column
abbrev pub is_asked : List Range → ℕ → Bool
is_asked [] column = false
is_asked (range ∷ ranges) column = is_within column range || is_asked ranges column

-- how many fields a record must have for a range: 0 if the range goes on to the last field
abbrev pub needed_for : Range → ℕ
needed_for range = if range.to == 2 ^ 64 - 1 then 0 else range.to + 1

-- how many fields a record must have for all of these ranges
abbrev pub needed : List Range → ℕ
needed [] = 0
needed (range ∷ ranges) = max (needed_for range) (needed ranges)

-- the first requested column
abbrev pub first_asked : List Range → ℕ
first_asked [] = 0
first_asked (range ∷ ranges) = range.from

-- the name of the new column for the answers, unless they replace their fields
abbrev pub name_of : Destination → Option (List ℕ)
name_of InPlace = None
name_of (NewColumn name) = Some name

-- `place` is the index of the first of these names that equals `name`
pub record IsFirstNamed (name : List ℕ) (names : List (List ℕ)) (place : ℕ) : Type 0 where
  pub there : place < length names
  pub named : get_or names place [] ≡ name
  pub first : (k : ℕ) → k < place → get_or names k [] ≢ name

-- none of these names equals `name`
abbrev pub HasNoNamed : List ℕ → List (List ℕ) → Type 0
HasNoNamed name names = (k : ℕ) → k < length names → get_or names k [] ≢ name

-- the columns that an operand means, for the names of the header (none without a header): a range; or the first column
-- of that name, else the range that the name reads as
abbrev pub IsFound : List (List ℕ) → Column → Range → Type 0
IsFound names (At range) found = found ≡ range
IsFound names (Named name range) found =
    (IsFirstNamed (string_bytes name) names found.from × (found.to ≡ found.from))
    ⊎ (HasNoNamed (string_bytes name) names × (range ≡ Some found))

-- the columns that each operand means
abbrev pub AreFound : List (List ℕ) → List Column → List Range → Type 0
AreFound names [] [] = ⊤
AreFound names [] (range ∷ ranges) = ⊥
AreFound names (column ∷ columns) [] = ⊥
AreFound names (column ∷ columns) (range ∷ ranges) = IsFound names column range × AreFound names columns ranges

-- an operand that means no column
abbrev pub IsMissing : List (List ℕ) → Column → Type 0
IsMissing names (At range) = ⊥
IsMissing names (Named name range) = HasNoNamed (string_bytes name) names × (range ≡ None)

abbrev pub AnyMissing : List (List ℕ) → List Column → Type 0
AnyMissing names [] = ⊥
AnyMissing names (column ∷ columns) = IsMissing names column ⊎ AnyMissing names columns

-- ---- the answer to a record

-- a text as a field: in quotes, as CSV writes them, if a byte requires them, if it is empty or if it starts like a byte
-- order mark
abbrev pub calls_for_quotes : ℕ → List ℕ → Bool
calls_for_quotes delimiter text = (length text == 0) || (get_or text 0 0 == 239) || needs_quotes (record
    default_writer { delimiter = delimiter }) text

abbrev pub in_quotes : ℕ → List ℕ → List ℕ
in_quotes delimiter text = quoted (record default_writer { delimiter = delimiter }) text

abbrev pub as_field : ℕ → List ℕ → List ℕ
as_field delimiter text = if calls_for_quotes delimiter text then in_quotes delimiter text else text

-- the bytes written for a field, and whether it was refused
pub record FieldAnswer : Type 0 where
  pub text : List ℕ
  pub refused : Bool

-- whether a field stays as it was: if the reply is empty, or if it is refused and refused fields are kept
abbrev pub stays : Keeping → AnswerText → Bool
stays keeps reply = (keeps.refused && reply.fault) || (length reply.text == 0)

-- whether the reply to a field is quoted because the field is: if quotes are kept and the reply is not a refusal
abbrev pub keeps_quotes : Keeping → List ℕ → AnswerText → Bool
keeps_quotes keeps raw reply = (keeps.quotes && not reply.fault) && (get_or raw 0 0 == 34)

-- the reply to a field, written as a field
abbrev pub written_for : Keeping → ℕ → List ℕ → AnswerText → List ℕ
written_for keeps delimiter raw reply = if keeps_quotes keeps raw reply then in_quotes delimiter reply.text
    else as_field delimiter reply.text

-- an unrequested field keeps its bytes; a requested one gets the reply, by the meaning `A`, to its text, or stays
abbrev pub IsAnswer : (List ℕ → AnswerText → Type 0) → Keeping → ℕ → Bool → List ℕ → FieldAnswer → Type 0
IsAnswer A keeps delimiter false raw answer = answer ≡ record { text = raw; refused = false }
IsAnswer A keeps delimiter true raw answer = (reply : AnswerText) × A (content Start raw) reply
    × (answer ≡ record {
      text = if stays keeps reply then raw else written_for keeps delimiter raw reply;
      refused =
          reply.fault;
    })

-- these are the answers to these fields, from column `column` on
abbrev pub AreAnswers : (List ℕ → AnswerText → Type 0) → Keeping → ℕ → List Range → ℕ → List (List ℕ) → List FieldAnswer
    → Type 0
AreAnswers A keeps delimiter asked column [] [] = ⊤
AreAnswers A keeps delimiter asked column [] (answer ∷ answers) = ⊥
AreAnswers A keeps delimiter asked column (raw ∷ raws) [] = ⊥
AreAnswers A keeps delimiter asked column (raw ∷ raws) (answer ∷ answers) =
    IsAnswer A keeps delimiter (is_asked asked column) raw answer × AreAnswers A keeps delimiter asked (column + 1)
    raws answers

-- the delimiter before every field but the first
abbrev pub before_field : ℕ → ℕ → List ℕ
before_field delimiter column = if column == 0 then [] else delimiter ∷ []

-- the text of these fields, from column `column` on
abbrev pub answers_text : ℕ → ℕ → List FieldAnswer → List ℕ
answers_text delimiter column [] = []
answers_text delimiter column (answer ∷ answers) = before_field delimiter column ++ answer.text ++ answers_text
    delimiter (column + 1) answers

-- how many of the fields were refused
abbrev pub count_refused : List FieldAnswer → ℕ
count_refused [] = 0
count_refused (answer ∷ answers) = (if answer.refused then 1 else 0) + count_refused answers

-- ---- the answers to the records of a text

-- between two records: whether a header comes next, the requested columns, the name of the new column, if any, the
-- counts of answered records (with the header) and refused fields, and the first record with a refusal, or 0
pub record State : Type 0 where
  pub headed : Bool
  pub asked : List Range
  pub into : Option (List ℕ)
  pub answered : ℕ
  pub refused : ℕ
  pub first : ℕ

-- the sum, up to the greatest count
abbrev pub counted : ℕ → ℕ → ℕ
counted a b = min (a + b) (2 ^ 64 - 1)

-- the state after one more record, with this many refused fields
abbrev pub one_more : State → ℕ → State
one_more s refused = record s {
  answered = counted s.answered 1;
  refused = counted s.refused refused;
  first = if (s.first == 0) && not (refused == 0) then counted s.answered 1 else s.first;
}

-- the bytes after a header: the name of the new column, if any
abbrev pub new_name : ℕ → Option (List ℕ) → List ℕ
new_name delimiter None = []
new_name delimiter (Some name) = delimiter ∷ as_field delimiter name

-- the header, which determines the requested columns, is written as it is, with the name of the new column added if
-- there is one
pub record PassesHeader (delimiter : ℕ) (columns : List Column) (s : State) (row : Row) (text : List ℕ) (t : State) :
    Type 0 where
  pub next : s.headed ≡ true
  pub short : length row.body ≤ longest_record
  pub found : List Range
  pub are_found : AreFound (field_texts delimiter row.body) columns found
  pub enough : needed found ≤ length (raw_fields delimiter Start row.body)
  pub text_is : text ≡ row.body ++ new_name delimiter s.into ++ row.end
  pub after : t ≡ one_more (record s { headed = false; asked = found }) 0

-- a record: the answers to its fields, and its end
pub record AnswersFields (A : List ℕ → AnswerText → Type 0) (keeps : Keeping) (delimiter : ℕ) (s : State) (row : Row)
    (text : List ℕ) (t : State) : Type 0 where
  pub known : s.headed ≡ false
  pub in_place : s.into ≡ None
  pub short : length row.body ≤ longest_record
  pub enough : needed s.asked ≤ length (raw_fields delimiter Start row.body)
  pub answers : List FieldAnswer
  pub are : AreAnswers A keeps delimiter s.asked 0 (raw_fields delimiter Start row.body) answers
  pub text_is : text ≡ answers_text delimiter 0 answers ++ row.end
  pub after : t ≡ one_more s (count_refused answers)

-- a record with a new column: its bytes, the answer to the first requested column, and its end
pub record AppendsField (A : List ℕ → AnswerText → Type 0) (keeps : Keeping) (delimiter : ℕ) (s : State) (row : Row)
    (text : List ℕ) (t : State) : Type 0 where
  pub known : s.headed ≡ false
  pub name : List ℕ
  pub into : s.into ≡ Some name
  pub short : length row.body ≤ longest_record
  pub enough : needed s.asked ≤ length (raw_fields delimiter Start row.body)
  pub answer : FieldAnswer
  pub is : IsAnswer A keeps delimiter true (get_or (raw_fields delimiter Start row.body) (first_asked s.asked) [])
      answer
  pub text_is : text ≡ row.body ++ delimiter ∷ answer.text ++ row.end
  pub after : t ≡ one_more s (if answer.refused then 1 else 0)

-- an empty line stays as it is
pub record PassesEmpty (s : State) (row : Row) (text : List ℕ) (t : State) : Type 0 where
  pub empty : row.body ≡ []
  pub text_is : text ≡ row.end
  pub after : t ≡ s

abbrev pub AnswersRow : (List ℕ → AnswerText → Type 0) → Keeping → ℕ → List Column → State → Row → List ℕ → State
    → Type 0
AnswersRow A keeps delimiter columns s row text t =
    PassesEmpty s row text t ⊎ ((row.body ≢ []) × (PassesHeader delimiter columns s row text t
    ⊎ (AnswersFields A keeps delimiter s row text t ⊎ AppendsField A keeps delimiter s row text t)))

-- the text is the output for these records
abbrev pub AnswersRows : (List ℕ → AnswerText → Type 0) → Keeping → ℕ → List Column → State → List Row → List ℕ → State
    → Type 0
AnswersRows A keeps delimiter columns s [] text t = (text ≡ []) × (t ≡ s)
AnswersRows A keeps delimiter columns s (row ∷ rows) text t = (first : List ℕ) × (rest : List ℕ) × (between : State)
    × AnswersRow A keeps delimiter columns s row first between × AnswersRows A keeps delimiter columns between rows
    rest t × (text ≡ first ++ rest)
