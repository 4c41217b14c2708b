-- What a run over lines leaves.
use Rattle.std.specs.Prelude.{◌≡◌, ℕ, ◌+◌, ◌*◌, ◌≤◌, ◌⊎◌, Bool, true, false, List, ◌++◌, length, take}
use Rattle.std.specs.declared.option.Option.{Option}
use Rattle.std.specs.Io.KnownBytes.{Appends, Consumes, IsAtEnd}
use Rattle.line_engine.specs.Lines.{ended_lines, lines}
use Rattle.line_engine.specs.Output.{AreAnswers, written_of, any_fault}
pub use Rattle.line_engine.specs.Output.{WritesOutput, status_of}
use Rattle.line_engine.specs.Appended.{AppendsPrefix}
use Rattle.line_engine.specs.AnswerText.{AnswerText}
use Rattle.line_engine.specs.Failures.{HasFailed}
use Rattle.line_engine.specs.declared.status.Status.{Status}
use Rattle.line_engine.specs.declared.status.Status.TheVariants.{Done, Faults, Usage, ReadFault, WriteFault, NoMemory}
use Rattle.line_engine.specs.declared.status.Status.TheVariants.{TooLong}

-- an input within the limit was read to its end, its whole output was written, and `fault` says whether an answer is a
-- fault
pub record AnswersAll (A : List ℕ → AnswerText → Type 0)
    (limit : ℕ) (left left' written written' : Option (List ℕ)) (fault : Bool) : Type 0 where
  pub input : List ℕ
  pub replies : List AnswerText
  pub taken : Consumes left left' input
  pub at_end : IsAtEnd left'
  pub within : length input ≤ limit
  pub answers : AreAnswers A (lines input) replies
  pub output : Appends written written' (written_of replies)
  pub faulty : any_fault replies ≡ fault

-- the answers to the lines that ended in the bytes taken were written
pub record AnswersEnded (A : List ℕ → AnswerText → Type 0)
    (limit : ℕ) (left left' written written' : Option (List ℕ)) : Type 0 where
  pub bytes : List ℕ
  pub replies : List AnswerText
  pub taken : Consumes left left' bytes
  pub within : length bytes ≤ limit
  pub answers : AreAnswers A (ended_lines bytes) replies
  pub output : Appends written written' (written_of replies)

-- one byte past the limit was taken, and the answers to the lines that ended before it were written
pub record AnswersLimit (A : List ℕ → AnswerText → Type 0)
    (limit : ℕ) (left left' written written' : Option (List ℕ)) : Type 0 where
  pub bytes : List ℕ
  pub replies : List AnswerText
  pub taken : Consumes left left' bytes
  pub past : length bytes ≡ limit + 1
  pub answers : AreAnswers A (ended_lines (take limit bytes)) replies
  pub output : Appends written written' (written_of replies)

-- a prefix of the answers to the first of these lines was written
pub record AnswersPrefix (A : List ℕ → AnswerText → Type 0)
    (lines : List (List ℕ)) (written written' : Option (List ℕ)) : Type 0 where
  pub some : List (List ℕ)
  pub more : List (List ℕ)
  pub cut : lines ≡ some ++ more
  pub replies : List AnswerText
  pub answers : AreAnswers A some replies
  pub output : AppendsPrefix written written' (written_of replies)

-- writing stopped among the lines that ended in the bytes taken or, at the end of the input, among all its lines
pub record AnswersUntilWriteFault (A : List ℕ → AnswerText → Type 0)
    (limit : ℕ) (left left' written written' : Option (List ℕ)) : Type 0 where
  pub bytes : List ℕ
  pub taken : Consumes left left' bytes
  pub cut_short : AnswersPrefix A (ended_lines (take limit bytes)) written written'
      ⊎ (IsAtEnd left' × (length bytes ≤ limit) × AnswersPrefix A (lines bytes) written written')

-- what a run with this status has taken and written
abbrev pub HasRun : (List ℕ → AnswerText → Type 0) → ℕ → Option (List ℕ) → Option (List ℕ) → Option (List ℕ)
    → Option (List ℕ) → Status → Type 0
HasRun A limit left left' written written' Done = AnswersAll A limit left left' written written' false
HasRun A limit left left' written written' Faults = AnswersAll A limit left left' written written' true
HasRun A limit left left' written written' Usage = ⊥
HasRun A limit left left' written written' ReadFault = AnswersEnded A limit left left' written written'
HasRun A limit left left' written written' WriteFault = AnswersUntilWriteFault A limit left left' written written'
HasRun A limit left left' written written' NoMemory = (left' ≡ left) × (written' ≡ written)
HasRun A limit left left' written written' TooLong = AnswersLimit A limit left left' written written'

-- neither count of failures changed
pub record NoFailure (read read' write write' : ℕ) : Type 0 where
  pub source : read' ≡ read
  pub sink : write' ≡ write

-- which counts of failures, of the source and of the sink, rose in a run with this status
abbrev pub HasFailures : ℕ → ℕ → ℕ → ℕ → Status → Type 0
HasFailures read read' write write' Done = NoFailure read read' write write'
HasFailures read read' write write' Faults = NoFailure read read' write write'
HasFailures read read' write write' Usage = NoFailure read read' write write'
HasFailures read read' write write' ReadFault = HasFailed read read' × (write' ≡ write)
HasFailures read read' write write' WriteFault = (read' ≡ read) × HasFailed write write'
HasFailures read read' write write' NoMemory = NoFailure read read' write write'
HasFailures read read' write write' TooLong = NoFailure read read' write write'

-- at most one byte past the limit was taken, in at most `per_byte` steps for each byte taken and `extra` for each line
-- of those bytes
pub record Spends (limit per_byte extra : ℕ) (left left' : Option (List ℕ)) (steps steps' : ℕ) : Type 0 where
  pub bytes : List ℕ
  pub taken : Consumes left left' bytes
  pub bound : length bytes ≤ limit + 1
  pub cost : steps' ≤ steps + per_byte * length bytes + extra * length (lines bytes)

-- the whole text was written and the call ended as `ending`, or a write failed after a prefix of the text
abbrev pub WritesText : List ℕ → Status → Option (List ℕ) → Option (List ℕ) → ℕ → ℕ → Status → Type 0
WritesText text ending written written' failures failures' status = ((status ≡ ending) × Appends written written' text
    × (failures' ≡ failures))
    ⊎ ((status ≡ WriteFault) × AppendsPrefix written written' text × HasFailed failures failures')
