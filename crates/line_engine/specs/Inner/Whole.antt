-- How the two halves of a run over a whole input end: reading and answering it, and writing the answer.
use Rattle.std.specs.Prelude.{◌≡◌, ◌⊎◌, ℕ, Bool, List, None, Option, Some, take}
use Rattle.line_engine.specs.Failures.{HasFailed}
use Rattle.line_engine.specs.Filled.{TakesWithin}
use Rattle.line_engine.specs.Refusals.{line_at, written_refusal}
use Rattle.line_engine.specs.Run.{WritesText}
use Rattle.line_engine.specs.WholeRun.{TakesPast, TakesSome}
use Rattle.line_engine.specs.declared.refusal.WholeRefusal.{WholeRefusal}
use Rattle.line_engine.specs.declared.status.Status.{Status}
use Rattle.line_engine.specs.declared.status.Status.TheVariants.{Done, Faults, Usage, ReadFault, WriteFault, NoMemory}
use Rattle.line_engine.specs.declared.status.Status.TheVariants.{TooLong}
use Rattle.line_engine.specs.declared.whole_rule.WholeAnswer.{WholeAnswer}
use Rattle.line_engine.specs.declared.whole_rule.WholeAnswer.TheVariants.{Text, Refused}

-- what was taken of an input that was not answered, and the count of failed reads, by status
abbrev pub StopsReading : ℕ → Option (List ℕ) → Option (List ℕ) → ℕ → ℕ → Status → Type 0
StopsReading limit left left' failures failures' Done = ⊥
StopsReading limit left left' failures failures' Faults = ⊥
StopsReading limit left left' failures failures' Usage = ⊥
StopsReading limit left left' failures failures' ReadFault = TakesSome limit left left' × HasFailed failures failures'
StopsReading limit left left' failures failures' WriteFault = ⊥
StopsReading limit left left' failures failures' NoMemory = TakesWithin limit left left' × (failures' ≡ failures)
StopsReading limit left left' failures failures' TooLong = TakesPast limit left left' × (failures' ≡ failures)

-- how writing an answer ended, and what is told of a refusal
abbrev pub WritesWhole : Bool → WholeAnswer → List ℕ → Option (List ℕ) → Option (List ℕ) → ℕ → ℕ → Status
    → Option WholeRefusal → Type 0
WritesWhole writes (Text text) input written written' failures failures' status told =
    WritesText text.items Done written written' failures failures' status × (told ≡ None)
WritesWhole writes (Refused number cause) input written written' failures failures' status told =
    ((status ≡ NoMemory) × (written' ≡ written) × (failures' ≡ failures) × (told ≡ None))
    ⊎ (WritesText (written_refusal writes number cause.items) Faults written written' failures failures' status
    × (told ≡ Some (record { number = number; line = take 160 (line_at number input); cause = cause })))
