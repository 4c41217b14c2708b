-- The arguments of the program with all its forms, and what a run leaves, seen from outside.
use Rattle.std.specs.Prelude.{◌≡◌, ◌⊎◌, ◌≤◌, ◌<◌, ℕ, String, List, [], ◌∷◌, Some, codes, length}
use Rattle.std.specs.String.{string_bytes}
use Rattle.std.specs.declared.alloc.Global.{Global}
use Rattle.line_engine.specs.AnswerText.{AnswerText}
use Rattle.line_engine.specs.Asked.{AskedWithin}
use Rattle.line_engine.specs.Failures.{HasFailed}
use Rattle.line_engine.specs.Appended.{AppendsPrefix}
use Rattle.line_engine.specs.Program.{Outside, ReadsNothing, WritesNothing}
use Rattle.line_engine.specs.Run.{HasFailures, WritesText}
use Rattle.line_engine.specs.WholeRun.{EndsBeforeWriting, HasWholeRun, WritesAnswer}
use Rattle.line_engine.specs.declared.status.Status.{Status}
use Rattle.line_engine.specs.declared.status.Status.TheVariants.{Usage, WriteFault, NoMemory, TooLong}
use Rattle.fixed_constants.specs.Constants.{IsName}
use Rattle.fixed_constants.specs.Forms.{IsFormAnswer, IsReserved}
use Rattle.fixed_constants.specs.declared.form.Form.{Form}
use Rattle.fixed_constants.specs.declared.form.Form.TheVariants.{Canonical, C, Rust}

-- a word that may guard a header: a name that C does not reserve
abbrev pub IsGuard : List ℕ → Type 0
IsGuard word = IsName word × (¬ IsReserved C [] word)

-- a word that names a language
abbrev pub NamesLanguage : List ℕ → Form → Type 0
NamesLanguage word form = ((word ≡ codes "c") × (form ≡ C)) ⊎ ((word ≡ codes "rust") × (form ≡ Rust))

-- the arguments name this form and this guard, which is empty if they name none
abbrev pub NamesForm : List (String Global) → Form → List ℕ → Type 0
NamesForm [] form guard = (form ≡ Canonical) × (guard ≡ [])
NamesForm (word ∷ []) form guard = NamesLanguage (string_bytes word) form × (guard ≡ [])
NamesForm (word ∷ name ∷ []) form guard = (string_bytes word ≡ codes "c") × (form ≡ C) × (guard ≡ string_bytes name)
    × IsGuard (string_bytes name)
NamesForm (word ∷ name ∷ more ∷ words) form guard = ⊥

-- the arguments name no form
abbrev pub IsUsageFault : List (String Global) → Type 0
IsUsageFault args = (form : Form) (guard : List ℕ) → ¬ NamesForm args form guard

-- the output for arguments that name no form
abbrev pub usage_line : List ℕ
usage_line = codes "usage: constants_tool [c [GUARD] | rust]\n"

-- the longest input, in bytes
abbrev pub most_bytes : ℕ
most_bytes = 1048576

-- all that `run_constants` promises of a run with these arguments and this status
pub record HasFormRun (args : List (String Global)) (before after : Outside) (status : Status) : Type 0 where
  -- the answer to an input within the limit is written if no read and no write failed, or memory ran out
  pub output : (f : Form) (g : List ℕ) → NamesForm args f g → (input : List ℕ) → before.left ≡ Some input
      → length input ≤ most_bytes
      → ¬ HasFailed before.read_failures after.read_failures → ¬ HasFailed before.write_failures after.write_failures
      → (status ≡ NoMemory) ⊎ WritesAnswer (IsFormAnswer f g) input before.written after.written status
  -- an input past the limit is reported, or memory ran out
  pub too_long : (f : Form) (g : List ℕ) → NamesForm args f g → (input : List ℕ) → before.left ≡ Some input
      → most_bytes < length input
      → ¬ HasFailed before.read_failures after.read_failures → ¬ HasFailed before.write_failures after.write_failures
      → (status ≡ NoMemory) ⊎ (status ≡ TooLong)
  -- what was taken and what was written, by status
  pub run : (f : Form) (g : List ℕ) → NamesForm args f g
      → HasWholeRun (IsFormAnswer f g) most_bytes before.left after.left before.written after.written status
  -- if a write failed, a prefix of the answer was written
  pub prefix_on_write_fault : (f : Form) (g : List ℕ) → NamesForm args f g → status ≡ WriteFault
      → (input : List ℕ) (answer : AnswerText)
      → before.left ≡ Some input → IsFormAnswer f g input answer
      → AppendsPrefix before.written after.written answer.text
  -- what reads requested of the source
  pub asked : (f : Form) (g : List ℕ) → NamesForm args f g → AskedWithin most_bytes before.asked after.asked
  -- arguments that name no form are answered with the usage line
  pub usage : IsUsageFault args
      → WritesText usage_line Usage before.written after.written before.write_failures after.write_failures status
  pub usage_only : status ≡ Usage → IsUsageFault args
  -- which count of failures rose, by status
  pub failures : HasFailures before.read_failures after.read_failures before.write_failures after.write_failures status
  -- a run with such arguments reads nothing
  pub untouched : IsUsageFault args → ReadsNothing before after
  -- a run that ended before its input did, or for lack of memory, wrote nothing
  pub unwritten : EndsBeforeWriting status → WritesNothing before after
