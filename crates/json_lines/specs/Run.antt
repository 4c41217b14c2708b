-- The text made of lines, and what a run over the lines of an input leaves.
use Rattle.std.specs.Prelude.{◌≡◌, ℕ, Bool, List, map, take}
use Rattle.std.specs.declared.convert.Infallible.{Infallible}
use Rattle.line_engine.specs.AnswerText.{AnswerText}
use Rattle.line_engine.specs.Lines.{ended_lines, kept_length, lines, unended}
use Rattle.line_engine.specs.Output.{AreAnswers, any_fault, written_of}
use Rattle.line_engine.specs.Program.{Outside}
use Rattle.line_engine.specs.declared.status.Status.{Status}
use Rattle.run_engine.specs.LineStatus.{IsStatus}
use Rattle.run_engine.specs.Machines.{How, going, finished, lacking, stopped}
use Rattle.run_engine.specs.Run.{HasRun}
use Rattle.run_engine.specs.Seen.{Moment}
use Rattle.run_engine.specs.declared.engine.End.{End}
use Rattle.fixed_command.specs.Runs.{outside_at}
use Rattle.json_lines.specs.Answers.{IsJsonAnswer}
use Rattle.json_lines.specs.Path.{step_of}
use Rattle.json_lines.specs.Told.{SeesLines, Sight, Told, count_after, nothing_told, told_of}
use Rattle.json_lines.specs.declared.splitter.JsonLines.{JsonLines}
use Rattle.json_lines.specs.declared.task.JsonTask.{JsonTask}

-- the meaning of a task: the answer to a line
abbrev pub Answers : {R : Type 0} → (List ℕ → AnswerText → Type 0) → JsonTask R → List ℕ → AnswerText → Type 0
Answers A task = IsJsonAnswer (map step_of task.steps.now) task.form A

-- these lines were answered with this text, and `fault` says whether one was refused
pub record AnswersLines (B : List ℕ → AnswerText → Type 0) (ls : List (List ℕ)) (text : List ℕ) (fault : Bool) : Type 0
  where
    pub replies : List AnswerText
    pub answers : AreAnswers B ls replies
    pub text_is : text ≡ written_of replies
    pub faulty : fault ≡ any_fault replies

-- how a machine stands with lines: the first bytes of the one that has not ended, whether one was refused, how many
-- ended, and what was told
pub record Standing (W : Type 0) : Type 0 where
  pub line : List ℕ
  pub has_fault : Bool
  pub count : ℕ
  pub told : W

abbrev pub standing_of : {R W : Type 0} → JsonLines R W → Standing (Told W)
standing_of lines = record {
  line = lines.line;
  has_fault = lines.has_fault;
  count = lines.refusals.lines;
  told = told_of lines;
}

-- the ended lines were answered and told, from `first` on, and a prefix of the next line is kept
pub record GoesOn {W : Type 0} (B : List ℕ → AnswerText → Type 0) (Sees : ℕ → List (List ℕ) → W → W → Type 0)
    (first : Standing W) (bytes text : List ℕ) (last : Standing W) : Type 0 where
  pub made : AnswersLines B (ended_lines bytes) text last.has_fault
  pub line : last.line ≡ take kept_length (unended bytes)
  pub count : last.count ≡ count_after first.count (ended_lines bytes)
  pub sees : Sees first.count (ended_lines bytes) first.told last.told

-- what a machine makes of lines, by how it stands with its input; without memory, some lines were answered
abbrev pub MakesLines : {W : Type 0} → (List ℕ → AnswerText → Type 0) → (ℕ → List (List ℕ) → W → W → Type 0)
    → Standing W → List ℕ → List ℕ → How Infallible → Standing W → Type 0
MakesLines B Sees first bytes text going last = GoesOn B Sees first bytes text last
MakesLines B Sees first bytes text (finished fault) last = AnswersLines B (lines bytes) text fault
    × Sees first.count (lines bytes) first.told last.told
MakesLines B Sees first bytes text lacking last = (fault : Bool) × AnswersLines B (ended_lines bytes) text fault
    × Sees first.count (ended_lines bytes) first.told last.told
MakesLines B Sees first bytes text (stopped late why) last = ⊥

abbrev pub MakesBy : {R W : Type 0} → (List ℕ → AnswerText → Type 0) → Sight W → JsonLines R W → List ℕ → List ℕ → ℕ
    → How Infallible → JsonLines R W → Type 0
MakesBy A Saw first bytes text spent how last = (last.task ≡ first.task) × MakesLines (Answers A first.task.now)
    (SeesLines first.task.now A Saw) (standing_of first) bytes text how (standing_of last)

-- what a run within a limit with this status has taken, made and written, by the meaning of a rule, and what was told:
-- an observer of values, and how many lines were refused, with the first of them
pub record HasJsonRun {R W : Type 0} (A : R → List ℕ → AnswerText → Type 0) (Saw : R → Sight W) (limit : ℕ)
    (task : JsonTask R) (before after : Outside) (status : Status) (watch : W) (then : Told W) : Type 0 where
  pub first : Standing (Told W)
  pub last : Standing (Told W)
  pub a : Moment
  pub b : Moment
  pub end : End Infallible
  pub counts : first.count ≡ 0
  pub begins : first.told ≡ nothing_told watch
  pub leaves : last.told ≡ then
  pub is_before : outside_at a ≡ before
  pub is_after : outside_at b ≡ after
  pub ends : IsStatus end status
  pub run : HasRun (λ bytes text spent how it. MakesLines (Answers (A task.rule.now) task)
      (SeesLines task (A task.rule.now) (Saw task.rule.now)) first bytes text how it) last limit a b end
