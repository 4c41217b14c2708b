-- What the run of a job over an input does.
use Rattle.std.specs.Prelude.{ℕ, Bool, List, Option}
use Rattle.line_engine.specs.declared.status.Status.{Status}
use Rattle.line_rejects.specs.declared.rejects.Rejects.{Rejects}
use Rattle.fixed.specs.Amounts.{AmountsEndBetween}
use Rattle.fixed.specs.Columns.{AmountColumnsEnd, BinaryColumnsEnd}
use Rattle.fixed.specs.FitRuns.{FitEndsBetween}
use Rattle.fixed.specs.Inputs.{TaskEndsBetween, WordsEndBetween}
use Rattle.fixed.specs.Json.{JsonEndsBetween}
use Rattle.fixed.specs.PackRuns.{PackEndsBetween}
use Rattle.fixed.specs.RecodeRuns.{PacksFloatsBetween, RepacksBetween, UnpackEndsBetween}
use Rattle.fixed.specs.declared.inputs.Job.{Job}
use Rattle.fixed.specs.declared.inputs.Job.TheVariants as job

-- a job over an input within a limit, with its rejects, by whether a write of these failed: from what its reader holds
-- to what its writer contains
abbrev pub JobEndsBetween : {J : Type 0} → Job → Bool → Option ℕ → Rejects J → Status → Option (List ℕ)
    → Option (List ℕ) → Option (List ℕ) → Type 0
JobEndsBetween (job.Task task) failed limit rejects status held old new = TaskEndsBetween failed limit task status held
    old new
JobEndsBetween (job.Reported task form) failed limit rejects status held old new = TaskEndsBetween failed limit task
    status held old new
JobEndsBetween (job.Words rule report) failed limit rejects status held old new = WordsEndBetween failed limit rule
    status held old new
JobEndsBetween (job.Amounts lines) failed limit rejects status held old new = AmountsEndBetween failed limit lines
    status held old new
JobEndsBetween (job.Column conversion report) failed limit rejects status held old new = BinaryColumnsEnd failed
    conversion status held old new
JobEndsBetween (job.AmountColumns conversion) failed limit rejects status held old new = AmountColumnsEnd failed
    conversion status held old new
JobEndsBetween (job.Json values) failed limit rejects status held old new = JsonEndsBetween failed limit values rejects
    status held old new
JobEndsBetween (job.Fit task) failed limit rejects status held old new = FitEndsBetween limit task status held old new
JobEndsBetween (job.Pack task) failed limit rejects status held old new = PackEndsBetween limit task status held old new
JobEndsBetween (job.PackFloats floats report) failed limit rejects status held old new =
    PacksFloatsBetween report limit floats status held old new
JobEndsBetween (job.Unpack unpacking) failed limit rejects status held old new =
    UnpackEndsBetween limit unpacking status held old new
JobEndsBetween (job.Repack words report) failed limit rejects status held old new =
    RepacksBetween report limit words status held old new
