-- What an observer is told of the fields of a record.
use Rattle.std.specs.Prelude.{◌≡◌, ◌≢◌, ◌⊎◌, ◌+◌, ℕ, List, [], ◌∷◌, Bool, true, false, Option, None, Some, get_or}
use Rattle.line_engine.specs.AnswerText.{AnswerText}
use Rattle.column_engine.specs.Answers.{State, first_asked, is_asked}
use Rattle.column_engine.specs.Rows.{Row, content, raw_fields}
use Rattle.column_engine.specs.declared.columns.Range.{Range}
use Rattle.column_engine.specs.declared.place.Place.TheVariants.{Start}
use Rattle.column_engine.specs.declared.records.Records.{Records}
use Rattle.column_engine.specs.declared.watch.FieldPlace.{FieldPlace}

-- the place of a field in the current record
abbrev pub place_in : {W : Type 0} → Records W → ℕ → FieldPlace
place_in records column = record { «record» = records.record; line = records.line; column = column }

-- of the records only the observer changed, as `Changes` says
abbrev pub OnlySaw : {W : Type 0} → (W → W → Type 0) → Records W → Records W → Type 0
OnlySaw Changes records then = Changes records.observer then.observer
    × (then ≡ record records { observer = then.observer })

-- an observer was told of a field, with the reply to its text by the meaning `A`
abbrev pub SeesField : {W : Type 0} → (List ℕ → AnswerText → Type 0)
    → (W → FieldPlace → List ℕ → AnswerText → W → Type 0) → FieldPlace → List ℕ → W → W → Type 0
SeesField A Saw place raw watch then = (reply : AnswerText) × A (content Start raw) reply
    × Saw watch place (content Start raw) reply then

-- it was, if the field is requested
abbrev pub SeesIf : {W : Type 0} → Bool → (List ℕ → AnswerText → Type 0)
    → (W → FieldPlace → List ℕ → AnswerText → W → Type 0) → FieldPlace → List ℕ → W → W → Type 0
SeesIf true A Saw place raw watch then = SeesField A Saw place raw watch then
SeesIf false A Saw place raw watch then = then ≡ watch

-- an observer was told of the requested ones of these fields, from column `column` on, in order
abbrev pub SeesFields : {W : Type 0} → (List ℕ → AnswerText → Type 0)
    → (W → FieldPlace → List ℕ → AnswerText → W → Type 0) → List Range → (ℕ → FieldPlace) → ℕ → List (List ℕ) → W → W
    → Type 0
SeesFields A Saw asked at column [] watch then = then ≡ watch
SeesFields {W = W} A Saw asked at column (raw ∷ raws) watch then = (next : W)
    × SeesIf (is_asked asked column) A Saw (at column) raw watch next
    × SeesFields A Saw asked at (column + 1) raws next then

-- an observer was told of the fields of a record that were answered: of the requested ones or, for a new column, of the
-- first of them
abbrev pub SeesInto : {W : Type 0} → Option (List ℕ) → (List ℕ → AnswerText → Type 0)
    → (W → FieldPlace → List ℕ → AnswerText → W → Type 0) → List Range → (ℕ → FieldPlace) → List (List ℕ) → W → W
    → Type 0
SeesInto None A Saw asked at raws watch then = SeesFields A Saw asked at 0 raws watch then
SeesInto (Some name) A Saw asked at raws watch then =
    SeesField A Saw (at (first_asked asked)) (get_or raws (first_asked asked) []) watch then

-- it was told of these, unless the record is the header
abbrev pub SeesRecord : {W : Type 0} → Bool → Option (List ℕ) → (List ℕ → AnswerText → Type 0)
    → (W → FieldPlace → List ℕ → AnswerText → W → Type 0) → List Range → (ℕ → FieldPlace) → List (List ℕ) → W → W
    → Type 0
SeesRecord true into A Saw asked at raws watch then = then ≡ watch
SeesRecord false into A Saw asked at raws watch then = SeesInto into A Saw asked at raws watch then

-- an observer was told of the answered fields of a record or, at an empty line, of none
abbrev pub SeesRow : {W : Type 0} → (List ℕ → AnswerText → Type 0)
    → (W → FieldPlace → List ℕ → AnswerText → W → Type 0) → ℕ → State → (ℕ → FieldPlace) → List ℕ → W → W → Type 0
SeesRow A Saw delimiter s at body watch then = ((body ≡ []) × (then ≡ watch))
    ⊎ ((body ≢ []) × SeesRecord s.headed s.into A Saw s.asked at (raw_fields delimiter Start body) watch then)

-- how an observer changes, if there is one
abbrev pub SawIfAny : {W : Type 0} → (W → W → Type 0) → Option W → Option W → Type 0
SawIfAny Changes None then = then ≡ None
SawIfAny Changes (Some watch) None = ⊥
SawIfAny Changes (Some watch) (Some then) = Changes watch then
