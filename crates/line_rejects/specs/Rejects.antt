-- The lines of rejects, and what is put of them.
use Rattle.std.specs.Prelude.{◌≡◌, ◌++◌, ◌∷◌, [], Bool, true, false, List, ℕ, Option, None, Some, decimal}
use Rattle.std.specs.Io.KnownBytes.{Appends}
use Rattle.line_engine.specs.Appended.{AppendsPrefix}
use Rattle.line_engine.specs.Failures.{HasFailed}
use Rattle.line_rejects.specs.Shown.{IsShown}
use Rattle.line_rejects.specs.declared.rejects.Rejects.{Rejects}

-- what contracts see of rejects: whether they are open, whether a write failed, the bytes written, if these are known,
-- how often writes failed, and the bytes not yet written
pub record Sight : Type 0 where
  pub is_open : Bool
  pub failed : Bool
  pub written : Option (List ℕ)
  pub failures : ℕ
  pub held : List ℕ

-- the bytes that a sink holds, if it exposes them; without a sink none are known
abbrev pub known_by : {K : Type 0} → (K → Option (List ℕ)) → Option K → Option (List ℕ)
known_by written None = None
known_by written (Some sink) = written sink

-- how often writes to a sink failed
abbrev pub count_by : {K : Type 0} → (K → ℕ) → Option K → ℕ
count_by failures None = 0
count_by failures (Some sink) = failures sink

abbrev pub sight_of : {K : Type 0} → (K → Option (List ℕ)) → (K → ℕ) → Rejects K → Sight
sight_of written failures rejects = record {
  is_open = rejects.is_open;
  failed = rejects.has_failed;
  written = known_by written rejects.sink;
  failures = count_by failures rejects.sink;
  held = rejects.held;
}

-- the bytes were written or, if a write failed, a prefix of them
abbrev pub Writes : Option (List ℕ) → Option (List ℕ) → ℕ → ℕ → List ℕ → Bool → Type 0
Writes before after failures later bytes true = Appends before after bytes × (later ≡ failures)
Writes before after failures later bytes false = AppendsPrefix before after bytes × HasFailed failures later

-- the bytes were written or are held, after those held before, in order, and no write failed
pub record Gathers (before after : Sight) (bytes : List ℕ) : Type 0 where
  pub was_open : before.is_open ≡ true
  pub failed : after.failed ≡ before.failed
  pub failures : after.failures ≡ before.failures
  pub gone : List ℕ
  pub split : before.held ++ bytes ≡ gone ++ after.held
  pub written : Appends before.written after.written gone

-- nothing was written
pub record Rests (before after : Sight) : Type 0 where
  pub is_shut : after.is_open ≡ false
  pub failed : after.failed ≡ before.failed
  pub written : after.written ≡ before.written
  pub failures : after.failures ≡ before.failures

-- a write failed
pub record Fails (before after : Sight) : Type 0 where
  pub failed : after.failed ≡ true
  pub failures : HasFailed before.failures after.failures

-- the bytes were put: if no write failed, all of them; else a prefix of what there was to be written
pub record Puts (before after : Sight) (bytes : List ℕ) : Type 0 where
  pub whole : after.is_open ≡ true → Gathers before after bytes
  pub part : after.is_open ≡ false → AppendsPrefix before.written after.written (before.held ++ bytes)
  pub rests : before.is_open ≡ false → Rests before after
  pub fails : before.is_open ≡ true → after.is_open ≡ false → Fails before after

-- a text was put as it is shown, and a byte after it
abbrev pub PutsField : Sight → Sight → List ℕ → ℕ → Type 0
PutsField before after text end = (shown : List ℕ) × IsShown text shown × Puts before after (shown ++ end ∷ [])

-- the name of an input, if it has one, and a tab
abbrev pub IsNameField : Option (List ℕ) → List ℕ → Type 0
IsNameField None field = field ≡ []
IsNameField (Some name) field = (shown : List ℕ) × IsShown name shown × (field ≡ shown ++ 9 ∷ [])

-- a place within a line, if there is one, and a tab
abbrev pub place_field : Option ℕ → List ℕ
place_field None = []
place_field (Some place) = decimal place ++ 9 ∷ []

-- the line of rejects for a refused line of an input with this name
pub record IsRejectLine (name : Option (List ℕ)) (number : ℕ) (place : Option ℕ) (text cause line : List ℕ)
    : Type 0 where
  pub first : List ℕ
  pub shown : List ℕ
  pub told : List ℕ
  pub is_name : IsNameField name first
  pub is_text : IsShown text shown
  pub is_cause : IsShown cause told
  pub line_is : line ≡ first ++ (decimal number ++ 9 ∷ []) ++ place_field place ++ (shown ++ 9 ∷ [])
      ++ (told ++ 10 ∷ [])

-- that line was put
abbrev pub HasReject : Option (List ℕ) → ℕ → Option ℕ → List ℕ → List ℕ → Sight → Sight → Type 0
HasReject name number place text cause before after = (line : List ℕ) × IsRejectLine name number place text cause line
    × Puts before after line
