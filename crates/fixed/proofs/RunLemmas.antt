-- Runs of jobs, from what a reader holds to what a writer contains.
use Rattle.std.proofs.Common.{◌≡◌, ◌⊎◌, ℕ, Bool, List, Option, ap, inl, inr, subst, sym}
use Rattle.column_engine.specs.Run.{HasFailures, counts_of, first_state}
use Rattle.column_engine.specs.Skip.{HasRunAfter}
use Rattle.column_engine.specs.declared.end.ColumnEnd.{ColumnEnd}
use Rattle.column_engine.specs.declared.end.Stop.TheVariants as stop
use Rattle.fixed_command.specs.Convert.{IsLineReply}
use Rattle.fixed_command.specs.Fields.{IsFieldReply, has_point, kept_of}
use Rattle.fixed_command.specs.declared.column.ColumnConversion.{ColumnConversion}
use Rattle.fixed_command.specs.declared.convert.Settings.{Settings}
use Rattle.line_engine.specs.AnswerText.{AnswerText}
use Rattle.line_engine.specs.declared.status.Status.{Status}
use Rattle.line_engine.specs.declared.status.Status.TheVariants.{NoMemory}
use Rattle.line_rejects.specs.declared.rejects.Rejects.{Rejects}
use Rattle.fixed.specs.Columns.{FieldsBetween}
use Rattle.fixed.specs.FitRuns.{FitEndsBetween}
use Rattle.fixed.specs.Inputs.{EndsBetween, RunsBetween}
use Rattle.fixed.specs.Jobs.{JobEndsBetween}
use Rattle.fixed.specs.Json.{JsonRunsBy}
use Rattle.fixed.specs.declared.commands.fit.FitTask.{FitTask}
use Rattle.fixed.specs.declared.commands.json.JsonJob.{JsonJob}
use Rattle.fixed.specs.declared.commands.json.ValueRule.{ValueRule}
use Rattle.fixed.specs.declared.inputs.Job.{Job}
use Rattle.fixed.specs.declared.inputs.Job.TheVariants as job

-- there was a run, or no memory for it: then nothing was read or written
pub ran_or_not : {S K Refused First Told Run : Type 0} {status : Status} {s s' : S} {k k' : K}
    → ((s' ≡ s) × (k' ≡ k) × (status ≡ NoMemory) × Refused × First × Told) ⊎ Run → (left : S → Option (List ℕ)) → (written : K → Option (List ℕ))
    → Run ⊎ ((status ≡ NoMemory) × (left s' ≡ left s) × (written k' ≡ written k))
ran_or_not (inl m) left written = inr (m.2, ap left m.0, ap written m.1)
ran_or_not (inr ran) left written = inl ran

-- a run over columns whose source and sink begin with these failures
pub fields_between : {R : Type 0} {A : List ℕ → AnswerText → Type 0} {conversion : ColumnConversion R} {point : Bool} {end : ColumnEnd}
    {given left had has held old new : Option (List ℕ)} {reads writes : ℕ} (reads' writes' : ℕ)
    → ((end.stop ≡ stop.NoMemory) ⊎ HasRunAfter conversion.skipped end.stop A (kept_of conversion.is_kept conversion.form.mark point)
    conversion.delimiter conversion.columns.items (first_state conversion.has_header conversion.destination conversion.columns.items)
    (counts_of end) given left had has)
    → HasFailures reads reads' writes writes' end.stop → (end.stop ≡ stop.NoMemory → (left ≡ given) × (has ≡ had))
    → given ≡ held → had ≡ old → has ≡ new → reads ≡ 0 → writes ≡ 0 → FieldsBetween A conversion point end held old new
fields_between {A = A} {conversion = conversion} {point = point} {end = end} {left = left} {old = old} {new = new} {reads = reads} reads' writes' run failures memory input from to no_read no_write = record {
  left = left;
  run = subst (λ h. (end.stop ≡ stop.NoMemory) ⊎ HasRunAfter conversion.skipped end.stop A (kept_of conversion.is_kept conversion.form.mark point)
      conversion.delimiter conversion.columns.items (first_state conversion.has_header conversion.destination conversion.columns.items)
      (counts_of end) h left old new) input (rw (sym from) (rw (sym to) run));
  read_failures = reads';
  write_failures = writes';
  failures = subst (λ n. HasFailures n reads' 0 writes' end.stop) no_read (subst (λ n. HasFailures reads reads' n writes' end.stop) no_write failures);
  memory = λ lacks. let m = memory lacks in (rw (sym input) m.0, rw (sym to) (rw (sym from) m.1));
}

-- a run over columns by the settings of a conversion
pub binary_fields : {conversion : ColumnConversion Settings} {s : Settings} {point : Bool} {end : ColumnEnd} {held old new : Option (List ℕ)}
    → s ≡ conversion.rule → point ≡ has_point s.print
    → FieldsBetween (IsFieldReply conversion.form s.radix (IsLineReply conversion.rule)) conversion point end held old new
    → FieldsBetween (IsFieldReply conversion.form conversion.rule.radix (IsLineReply conversion.rule)) conversion (has_point conversion.rule.print) end held old new
binary_fields {conversion = conversion} {s = s} {end = end} {held = held} {old = old} {new = new} settings point ran =
    subst (λ (t : Settings). FieldsBetween (IsFieldReply conversion.form t.radix (IsLineReply conversion.rule)) conversion (has_point t.print) end held old new) settings
    (subst (λ (p : Bool). FieldsBetween (IsFieldReply conversion.form s.radix (IsLineReply conversion.rule)) conversion p end held old new) point ran)

-- the same by whether a reply may have a point
pub fields_with_point : {R : Type 0} {A : List ℕ → AnswerText → Type 0} {conversion : ColumnConversion R} {p q : Bool} {end : ColumnEnd} {held old new : Option (List ℕ)}
    → p ≡ q → FieldsBetween A conversion p end held old new → FieldsBetween A conversion q end held old new
fields_with_point {A = A} {conversion = conversion} {end = end} {held = held} {old = old} {new = new} same ran =
    subst (λ (t : Bool). FieldsBetween A conversion t end held old new) same ran

-- a job over an input, by the rule that it has
pub json_ends : {J : Type 0} (job : JsonJob) (rule : ValueRule) (limit : ℕ) (rejects : Rejects J) (failed : Bool)
    (held : Option (List ℕ)) {end : Status} {old new : Option (List ℕ)}
    → job.rule ≡ rule → EndsBetween (λ status. RunsBetween (JsonRunsBy rule limit job rejects status)) failed end held old new
    → EndsBetween (λ status. RunsBetween (JsonRunsBy job.rule limit job rejects status)) failed end held old new
json_ends job rule limit rejects failed held {end = end} {old = old} {new = new} is ran =
    subst (λ (r : ValueRule). EndsBetween (λ status. RunsBetween (JsonRunsBy r limit job rejects status)) failed end held old new) (sym is) ran

-- a job over an input that finds a format
pub fit_ends : {J : Type 0} (asked : Job) (task : FitTask) (failed : Bool) (limit : Option ℕ) (rejects : Rejects J) (status : Status)
    (held old new : Option (List ℕ)) → asked ≡ job.Fit task → FitEndsBetween limit task status held old new
    → JobEndsBetween asked failed limit rejects status held old new
fit_ends asked task failed limit rejects status held old new is ran =
    subst (λ (j : Job). JobEndsBetween j failed limit rejects status held old new) (sym is) ran
