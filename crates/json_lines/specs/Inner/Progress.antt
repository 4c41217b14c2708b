-- The effect of the end of a line, and of a note of it.
use Rattle.std.specs.Prelude.{◌≡◌, ◌||◌, ◌++◌, List, ℕ, [], Err, Ok, Result, take}
use Rattle.std.specs.declared.convert.Infallible.{Infallible}
use Rattle.line_engine.specs.AnswerText.{AnswerText}
use Rattle.line_engine.specs.Lines.{kept_length}
use Rattle.line_engine.specs.Memory.{next_count}
use Rattle.line_engine.specs.Output.{reply_line}
use Rattle.run_engine.specs.Seen.{Breaks, Puts, Seen}
use Rattle.run_engine.specs.declared.machine.Halt.{Halt}
use Rattle.run_engine.specs.declared.machine.Halt.TheVariants.{NoMemory, Stopped, WriteFault}
use Rattle.json_lines.specs.Told.{IsStop, IsWithin, SeesRefused, Sight, Told, first_after, refused_after, report_of}
use Rattle.json_lines.specs.Told.{told_of}
use Rattle.json_lines.specs.declared.answer.Refused.{Refused}
use Rattle.json_lines.specs.declared.splitter.JsonLines.{JsonLines}

-- a line was noted: counted and reported if it is refused, and told if it is refused as a whole
pub record NotesLine {R W : Type 0} (Saw : Sight W) (refused : Refused) (old new : JsonLines R W) : Type 0 where
  pub stop : ℕ
  pub stops : IsStop refused old.line stop
  pub sees : SeesRefused refused stop Saw (next_count old.refusals.lines) old.line old.observer new.observer
  pub count : new.refusals.count ≡ refused_after refused old.refusals.count
  pub first : IsWithin refused old.line → new.refusals.first
      ≡ first_after old.refusals.first (report_of (next_count old.refusals.lines) refused stop old.line old.space.reply)

-- the line was answered, and `Sent` holds of its answer and a newline
pub record EndsLine {R W : Type 0} (B : List ℕ → AnswerText → Type 0) (Sees : ℕ → List ℕ → Told W → Told W → Type 0)
    (part : List ℕ) (old new : JsonLines R W) (Sent : List ℕ → Type 0) : Type 0 where
  pub reply : AnswerText
  pub answer : B (take kept_length (old.line ++ part)) reply
  pub fault : new.has_fault ≡ (old.has_fault || reply.fault)
  pub line : new.line ≡ []
  pub task : new.task ≡ old.task
  pub count : new.refusals.lines ≡ next_count old.refusals.lines
  pub sees : Sees (next_count old.refusals.lines) (take kept_length (old.line ++ part)) (told_of old)
      (told_of new)
  pub sent : Sent (reply_line reply)

-- a line ended, and its answer was put; or a write failed with it; or there was no memory
abbrev pub LineEnds : {R W : Type 0} → (List ℕ → AnswerText → Type 0) → (ℕ → List ℕ → Told W → Told W → Type 0)
    → List ℕ → JsonLines R W → JsonLines R W → Seen → Seen → List ℕ → List ℕ → Result (Unit {0}) (Halt Infallible)
    → Type 0
LineEnds B Sees part old new a b held held' (Ok _) = EndsLine B Sees part old new (Puts a b held held')
LineEnds B Sees part old new a b held held' (Err WriteFault) = EndsLine B Sees part old new (Breaks a b held)
LineEnds B Sees part old new a b held held' (Err NoMemory) = (new.task ≡ old.task) × (b ≡ a) × (held' ≡ held)
    × (told_of new ≡ told_of old)
LineEnds B Sees part old new a b held held' (Err (Stopped why)) = ⊥
