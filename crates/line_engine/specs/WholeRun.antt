-- What a run over a whole input leaves.
use Rattle.std.specs.Prelude.{◌≡◌, ◌+◌, ◌≤◌, ◌<◌, ◌⊎◌, ℕ, Bool, true, false, List, Some, length}
use Rattle.std.specs.declared.option.Option.{Option}
use Rattle.std.specs.Io.KnownBytes.{Appends, Consumes, IsAtEnd}
use Rattle.line_engine.specs.AnswerText.{AnswerText}
use Rattle.line_engine.specs.Asked.{AskedWithin}
use Rattle.line_engine.specs.Failures.{HasFailed}
use Rattle.line_engine.specs.Filled.{TakesWithin}
use Rattle.line_engine.specs.Appended.{AppendsPrefix}
use Rattle.line_engine.specs.Output.{status_of}
use Rattle.line_engine.specs.Program.{Outside}
use Rattle.line_engine.specs.Run.{HasFailures}
use Rattle.line_engine.specs.declared.status.Status.{Status}
use Rattle.line_engine.specs.declared.status.Status.TheVariants.{Done, Faults, Usage, ReadFault, WriteFault, NoMemory}
use Rattle.line_engine.specs.declared.status.Status.TheVariants.{TooLong}

-- an input within the limit was read to its end, its answer was written whole, and `fault` says whether it reports a
-- fault
pub record AnswersWhole (A : List ℕ → AnswerText → Type 0)
    (limit : ℕ) (left left' written written' : Option (List ℕ)) (fault : Bool) : Type 0 where
  pub input : List ℕ
  pub taken : Consumes left left' input
  pub at_end : IsAtEnd left'
  pub within : length input ≤ limit
  pub text : AnswerText
  pub answer : A input text
  pub output : Appends written written' text.text
  pub faulty : text.fault ≡ fault

-- an input within the limit was read to its end, and a prefix of its answer was written
pub record AnswersWholeInPart (A : List ℕ → AnswerText → Type 0)
    (limit : ℕ) (left left' written written' : Option (List ℕ)) : Type 0 where
  pub input : List ℕ
  pub taken : Consumes left left' input
  pub at_end : IsAtEnd left'
  pub within : length input ≤ limit
  pub text : AnswerText
  pub answer : A input text
  pub output : AppendsPrefix written written' text.text

-- bytes within the limit were taken
pub record TakesSome (limit : ℕ) (left left' : Option (List ℕ)) : Type 0 where
  pub bytes : List ℕ
  pub taken : Consumes left left' bytes
  pub within : length bytes ≤ limit

-- one byte past the limit was taken, and none after it
pub record TakesPast (limit : ℕ) (left left' : Option (List ℕ)) : Type 0 where
  pub bytes : List ℕ
  pub taken : Consumes left left' bytes
  pub past : length bytes ≡ limit + 1

-- what a run with this status has taken and written
abbrev pub HasWholeRun : (List ℕ → AnswerText → Type 0) → ℕ → Option (List ℕ) → Option (List ℕ) → Option (List ℕ)
    → Option (List ℕ) → Status → Type 0
HasWholeRun A limit left left' written written' Done = AnswersWhole A limit left left' written written' false
HasWholeRun A limit left left' written written' Faults = AnswersWhole A limit left left' written written' true
HasWholeRun A limit left left' written written' Usage = ⊥
HasWholeRun A limit left left' written written' ReadFault = TakesSome limit left left' × (written' ≡ written)
HasWholeRun A limit left left' written written' WriteFault = AnswersWholeInPart A limit left left' written written'
HasWholeRun A limit left left' written written' NoMemory = TakesWithin limit left left' × (written' ≡ written)
HasWholeRun A limit left left' written written' TooLong = TakesPast limit left left' × (written' ≡ written)

-- a run with this status ended before it wrote
abbrev pub EndsBeforeWriting : Status → Type 0
EndsBeforeWriting status = (status ≡ ReadFault) ⊎ ((status ≡ NoMemory) ⊎ (status ≡ TooLong))

-- the answer to the input was written whole, and the status says whether it reports a fault
pub record WritesAnswer (A : List ℕ → AnswerText → Type 0)
    (input : List ℕ) (written written' : Option (List ℕ)) (status : Status) : Type 0 where
  pub text : AnswerText
  pub answer : A input text
  pub output : Appends written written' text.text
  pub faulty : status ≡ status_of text.fault

-- no read and no write failed
abbrev pub Undisturbed : Outside → Outside → Type 0
Undisturbed before after = (¬ HasFailed before.read_failures after.read_failures)
    × (¬ HasFailed before.write_failures after.write_failures)

-- a run over a whole input, by the meaning `A` of its answer
pub record IsWholeRun (A : List ℕ → AnswerText → Type 0) (limit : ℕ) (before after : Outside)
    (status : Status) : Type 0 where
  -- the answer to an input within the limit is written, or memory ran out
  pub output : (input : List ℕ) → before.left ≡ Some input → length input ≤ limit → Undisturbed before after
      → (status ≡ NoMemory) ⊎ WritesAnswer A input before.written after.written status
  -- a longer input is reported, or memory ran out
  pub too_long : (input : List ℕ) → before.left ≡ Some input → limit < length input → Undisturbed before after
      → (status ≡ NoMemory) ⊎ (status ≡ TooLong)
  -- what was taken and what was written, by status
  pub run : HasWholeRun A limit before.left after.left before.written after.written status
  -- a prefix of the answer, if a write failed
  pub prefix_on_write_fault : status ≡ WriteFault → (input : List ℕ) (answer : AnswerText) → before.left ≡ Some input
      → A input answer → AppendsPrefix before.written after.written answer.text
  -- what reads requested of the source
  pub asked : AskedWithin limit before.asked after.asked
  -- which count of failures rose, by status
  pub failures : HasFailures before.read_failures after.read_failures before.write_failures after.write_failures status
