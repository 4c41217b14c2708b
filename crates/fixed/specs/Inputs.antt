-- The run of a job over an input, from what its reader holds to what its writer contains.
use Rattle.std.specs.Prelude.{◌≡◌, Bool, false, true, ℕ, List, Option, option_map}
use Rattle.command_line.specs.Device.{strip_bom}
use Rattle.fixed_command.specs.Limits.{limit_of}
use Rattle.fixed_command.specs.Runs.{TaskRuns}
use Rattle.fixed_command.specs.declared.task.Task.{Task}
use Rattle.fixed_report.specs.Report.{Kept}
use Rattle.fixed_words.specs.Run.{HasWordsRun}
use Rattle.fixed_words.specs.Told.{IsNoError, Told, nothing_told}
use Rattle.fixed_words.specs.declared.rule.WordRule.{WordRule}
use Rattle.line_engine.specs.Program.{Outside}
use Rattle.line_engine.specs.declared.status.Status.{Status}
use Rattle.line_engine.specs.declared.status.Status.TheVariants.{NoMemory, WriteFault}
use Rattle.line_rejects.specs.Rejects.{Sight}
use Rattle.run_engine.specs.Seen.{Seen, seen_of}

-- the run is over what a reader holds, and writes to a writer that contains `old` before it and `new` after it; no
-- device had failed before it
pub record RunsOver (Runs : Outside → Outside → Type 0) (held old new : Option (List ℕ)) : Type 0 where
  pub before : Outside
  pub after : Outside
  pub runs : Runs before after
  pub input : before.left ≡ held
  pub from : before.written ≡ old
  pub to : after.written ≡ new
  pub no_read_failed : before.read_failures ≡ 0
  pub no_write_failed : before.write_failures ≡ 0

-- the run is over a text: over what a reader holds, without a byte order mark at its beginning
abbrev pub RunsBetween : (Outside → Outside → Type 0) → Option (List ℕ) → Option (List ℕ) → Option (List ℕ) → Type 0
RunsBetween Runs held = RunsOver Runs (option_map strip_bom held)

-- what is seen of both devices, by names for them
abbrev pub seen_at : Outside → ℕ → ℕ → Seen
seen_at o = seen_of o.left o.asked o.read_failures o.written o.write_failures

-- a task over an input within a limit
abbrev pub TaskRunsBetween : Option ℕ → Task → Status → Option (List ℕ) → Option (List ℕ) → Option (List ℕ) → Type 0
TaskRunsBetween limit task status = RunsBetween (λ before after. TaskRuns limit task before after status)

-- the status of an input, by whether a write of its rejects failed and by the status of its run
abbrev pub end_of : Bool → Status → Status
end_of false status = status
end_of true status = WriteFault

-- a run with its rejects, by whether a write of these failed
abbrev pub EndsBetween : (Status → Option (List ℕ) → Option (List ℕ) → Option (List ℕ) → Type 0) → Bool → Status
    → Option (List ℕ) → Option (List ℕ) → Option (List ℕ) → Type 0
EndsBetween Runs failed end held old new = (status : Status) × (end ≡ end_of failed status)
    × Runs status held old new

-- a task over an input within a limit, by whether a write of its rejects failed
abbrev pub TaskEndsBetween : Bool → Option ℕ → Task → Status → Option (List ℕ) → Option (List ℕ) → Option (List ℕ)
    → Type 0
TaskEndsBetween failed limit task = EndsBetween (TaskRunsBetween limit task) failed

-- a run over the words of an input; without memory nothing was read or written
pub record RunsWords (limit : ℕ) (rule : WordRule) (status : Status) (before after : Outside) : Type 0 where
  pub run : ¬ (status ≡ NoMemory) → (asked : Bool) × (errors : Option Kept) × IsNoError asked rule.rule errors
      × (name : Option (List ℕ)) × (rejects : Sight) × (last : Told)
      × HasWordsRun limit rule before after status (nothing_told errors name rejects) last
  pub memory : status ≡ NoMemory → after ≡ before

-- the words of an input within a limit
abbrev pub WordsRunBetween : Option ℕ → WordRule → Status → Option (List ℕ) → Option (List ℕ) → Option (List ℕ)
    → Type 0
WordsRunBetween limit rule status = RunsBetween (RunsWords (limit_of limit) rule status)

-- the words of an input within a limit, by whether a write of their rejects failed
abbrev pub WordsEndBetween : Bool → Option ℕ → WordRule → Status → Option (List ℕ) → Option (List ℕ) → Option (List ℕ)
    → Type 0
WordsEndBetween failed limit rule = EndsBetween (WordsRunBetween limit rule) failed
