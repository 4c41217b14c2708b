-- The arguments of the program, and the effects of a run, seen from outside.
use Rattle.std.specs.Prelude.{◌≡◌, ◌⊎◌, ◌≤◌, ◌<◌, ℕ, String, List, [], ◌∷◌, Some, codes, length}
use Rattle.std.specs.String.{string_bytes}
use Rattle.std.specs.declared.alloc.Global.{Global}
use Rattle.fixed_numeral.specs.declared.radix.Radix.{Radix}
use Rattle.fixed_numeral.specs.declared.radix.Radix.TheVariants.{Dec}
use Rattle.fixed_respell.specs.Words.{radix_text}
use Rattle.line_engine.specs.AnswerText.{AnswerText}
use Rattle.line_engine.specs.Asked.{AskedWithin}
use Rattle.line_engine.specs.Failures.{HasFailed}
use Rattle.line_engine.specs.Appended.{AppendsPrefix}
use Rattle.line_engine.specs.Program.{Outside, ReadsNothing, WritesNothing}
use Rattle.line_engine.specs.Run.{HasFailures, WritesText}
use Rattle.line_engine.specs.WholeRun.{EndsBeforeWriting, HasWholeRun, WritesAnswer}
use Rattle.line_engine.specs.declared.status.Status.{Status}
use Rattle.line_engine.specs.declared.status.Status.TheVariants.{Usage, WriteFault, NoMemory, TooLong}
use Rattle.fixed_least.specs.Least.{IsWholeAnswer}

-- the arguments name this radix: 10 if there are none, else that of the only argument
abbrev pub NamesRadix : List (String Global) → Radix → Type 0
NamesRadix [] r = r ≡ Dec
NamesRadix (word ∷ []) r = string_bytes word ≡ radix_text r
NamesRadix (word ∷ more ∷ words) r = ⊥

-- the arguments name no radix
abbrev pub IsUsageFault : List (String Global) → Type 0
IsUsageFault args = (r : Radix) → ¬ NamesRadix args r

-- the text that is written for arguments that name no radix
abbrev pub usage_line : List ℕ
usage_line = codes "usage: least_tool [RADIX]\n"

-- the greatest length of an input, in bytes
abbrev pub most_bytes : ℕ
most_bytes = 1048576

-- the contract of `run_least`: a run with these arguments that ended with this status
pub record HasLeastRun (args : List (String Global)) (before after : Outside) (status : Status) : Type 0 where
  -- the answer to an input within the limit is written if no read and no write failed, unless there was no memory
  pub output : (r : Radix) → NamesRadix args r → (input : List ℕ) → before.left ≡ Some input → length input ≤ most_bytes
      → ¬ HasFailed before.read_failures after.read_failures → ¬ HasFailed before.write_failures after.write_failures
      → (status ≡ NoMemory) ⊎ WritesAnswer (IsWholeAnswer r) input before.written after.written status
  -- an input past the limit is reported, under the same conditions
  pub too_long : (r : Radix) → NamesRadix args r → (input : List ℕ) → before.left ≡ Some input
      → most_bytes < length input
      → ¬ HasFailed before.read_failures after.read_failures → ¬ HasFailed before.write_failures after.write_failures
      → (status ≡ NoMemory) ⊎ (status ≡ TooLong)
  -- the bytes taken and the bytes written, by status
  pub run : (r : Radix) → NamesRadix args r
      → HasWholeRun (IsWholeAnswer r) most_bytes before.left after.left before.written after.written status
  -- a prefix of the answer was written if a write failed
  pub prefix_on_write_fault : (r : Radix) → NamesRadix args r → status ≡ WriteFault
      → (input : List ℕ) (answer : AnswerText) → before.left ≡ Some input
      → IsWholeAnswer r input answer → AppendsPrefix before.written after.written answer.text
  -- the bound on the reads of the source
  pub asked : (r : Radix) → NamesRadix args r → AskedWithin most_bytes before.asked after.asked
  -- the usage line is written for arguments that name no radix
  pub usage : IsUsageFault args
      → WritesText usage_line Usage before.written after.written before.write_failures after.write_failures status
  pub usage_only : status ≡ Usage → (r : Radix) → ¬ NamesRadix args r
  -- the count of failures that rose, by status
  pub failures : HasFailures before.read_failures after.read_failures before.write_failures after.write_failures status
  -- a run with other arguments reads nothing
  pub untouched : IsUsageFault args → ReadsNothing before after
  -- a run whose reading failed, whose input was too long or that had no memory wrote nothing
  pub unwritten : EndsBeforeWriting status → WritesNothing before after
