use Rattle.std.proofs.lemmas.Result.{IfErr-weaker, IfOk-weaker}
use Rattle.fixed.specs.Packing.{IsAmountPack, IsLinesJob}
use Rattle.fixed.specs.declared.commands.pack.LinesRule.{LinesRule}
use Rattle.fixed.specs.declared.commands.pack.LinesRule.TheVariants as rule
use Rattle.fixed.specs.declared.inputs.Job.{Job}
use Rattle.fixed.specs.declared.settings.PackInput.TheVariants.{Numerals}
use Rattle.fixed.proofs.PackLemmas.{amount_lines_refused}
use Rattle.fixed.proofs.commands.pack.decimal_job.Goals as goal

pub returns-in-Ok-clause-refused : goal.returns-in-Ok-clause-refused
returns-in-Ok-clause-refused c =
    let given = c.args.given.now in
    IfErr-weaker c.lines_job.result (λ _. (by : LinesRule) (job : Job) → ¬ IsLinesJob given by job) (λ _. (job : Job) → ¬ IsAmountPack given c.args.format job)
    (λ e none job. amount_lines_refused given c.args.format job none) c.lines_job.ensures.refused

pub returns-in-Ok-pack_settings : goal.returns-in-Ok-pack_settings
returns-in-Ok-pack_settings c =
    let given = c.args.given.now in
    let settings = c.in-Ok-pack_settings.settings in
    record {
      value = IfOk-weaker c.lines_job-in-Ok-pack_settings.result (IsLinesJob given (rule.Amounts settings)) (IsAmountPack given c.args.format)
          (λ job lines. record {
            input = Numerals;
            is_input = c.in-Ok-pack_settings.ensures.value.input;
            is_job = (settings, c.in-Ok-pack_settings.ensures.value, lines);
          }) c.lines_job-in-Ok-pack_settings.ensures.value;
      refused = IfErr-weaker c.lines_job-in-Ok-pack_settings.result (λ _. (by : LinesRule) (job : Job) → ¬ IsLinesJob given by job)
          (λ _. (job : Job) → ¬ IsAmountPack given c.args.format job)
          (λ e none job. amount_lines_refused given c.args.format job none) c.lines_job-in-Ok-pack_settings.ensures.refused;
    }
