-- The arguments of the program, and what a run leaves, seen from outside.
use Rattle.std.specs.Prelude.{◌≡◌, ◌⊎◌, ◌≤◌, ◌<◌, ℕ, String, List, [], ◌∷◌, Some, codes, decimal, length}
use Rattle.std.specs.String.{string_bytes}
use Rattle.std.specs.declared.alloc.Global.{Global}
use Rattle.line_engine.specs.AnswerText.{AnswerText}
use Rattle.line_engine.specs.Asked.{AskedWithin}
use Rattle.line_engine.specs.Failures.{HasFailed}
use Rattle.line_engine.specs.Appended.{AppendsPrefix}
use Rattle.line_engine.specs.Program.{Outside, ReadsNothing, WritesNothing}
use Rattle.line_engine.specs.Run.{HasFailures, WritesText}
use Rattle.line_engine.specs.WholeRun.{EndsBeforeWriting, HasWholeRun, WritesAnswer}
use Rattle.line_engine.specs.declared.status.Status.{Status}
use Rattle.line_engine.specs.declared.status.Status.TheVariants.{Usage, WriteFault, NoMemory, TooLong}
use Rattle.fixed_columns.specs.Answer.{IsWholeAnswer}

-- the longest input, in bytes, if no argument names a limit, and the greatest limit
abbrev pub most_bytes : ℕ
most_bytes = 1048576

abbrev pub max_limit : ℕ
max_limit = 4294967296

-- a name and a decimal number name this limit
pub record NamesLimit (name number : List ℕ) (limit : ℕ) : Type 0 where
  pub named : name ≡ codes "limit"
  pub numbered : number ≡ decimal limit
  pub some : 1 ≤ limit
  pub most : limit ≤ max_limit

-- the arguments request the column of an input of at most `limit` bytes
abbrev pub AsksWithin : List (String Global) → ℕ → Type 0
AsksWithin [] limit = limit ≡ most_bytes
AsksWithin (name ∷ []) limit = ⊥
AsksWithin (name ∷ number ∷ []) limit = NamesLimit (string_bytes name) (string_bytes number) limit
AsksWithin (name ∷ number ∷ more ∷ others) limit = ⊥

-- the arguments request no column
abbrev pub IsUsageFault : List (String Global) → Type 0
IsUsageFault args = (limit : ℕ) → ¬ AsksWithin args limit

-- the output for such arguments
abbrev pub usage_line : List ℕ
usage_line = codes "usage: columns_tool\n"

-- all that `run_columns` promises of a run with these arguments and this status
pub record HasColumnsRun (args : List (String Global)) (before after : Outside) (status : Status) : Type 0 where
  -- the answer to an input within the limit is written if no read and no write failed, or memory ran out
  pub output : (limit : ℕ) → AsksWithin args limit → (input : List ℕ) → before.left ≡ Some input → length input ≤ limit
      → ¬ HasFailed before.read_failures after.read_failures → ¬ HasFailed before.write_failures after.write_failures
      → (status ≡ NoMemory) ⊎ WritesAnswer IsWholeAnswer input before.written after.written status
  -- a longer input is reported, or memory ran out
  pub too_long : (limit : ℕ) → AsksWithin args limit → (input : List ℕ) → before.left ≡ Some input
      → limit < length input
      → ¬ HasFailed before.read_failures after.read_failures → ¬ HasFailed before.write_failures after.write_failures
      → (status ≡ NoMemory) ⊎ (status ≡ TooLong)
  -- what was taken and what was written, by status
  pub run : (limit : ℕ) → AsksWithin args limit
      → HasWholeRun IsWholeAnswer limit before.left after.left before.written after.written status
  -- if a write failed, a prefix of the answer was written
  pub prefix_on_write_fault : (limit : ℕ) → AsksWithin args limit → status ≡ WriteFault
      → (input : List ℕ) (answer : AnswerText) → before.left ≡ Some input
      → IsWholeAnswer input answer → AppendsPrefix before.written after.written answer.text
  -- what reads requested of the source
  pub asked : (limit : ℕ) → AsksWithin args limit → AskedWithin limit before.asked after.asked
  -- arguments that request no column are answered with the usage line
  pub usage : IsUsageFault args
      → WritesText usage_line Usage before.written after.written before.write_failures after.write_failures status
  pub usage_only : status ≡ Usage → IsUsageFault args
  -- which count of failures rose, by status
  pub failures : HasFailures before.read_failures after.read_failures before.write_failures after.write_failures status
  -- a run with such arguments reads nothing
  pub untouched : IsUsageFault args → ReadsNothing before after
  -- a run that ended before its input did, or for lack of memory, wrote nothing
  pub unwritten : EndsBeforeWriting status → WritesNothing before after
