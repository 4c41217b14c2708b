use Rattle.std.proofs.Common.{subst}
use Rattle.std.proofs.lemmas.Result.{IfErr-weaker}
use Rattle.std.specs.Prelude.{codes}
use Rattle.command_line.specs.Words.{value_of}
use Rattle.fixed_command.specs.Asked.{IsNamed}
use Rattle.fixed.specs.Packing.{IsBinaryPack, IsLinesJob}
use Rattle.fixed.specs.Settings.{pack_input_text}
use Rattle.fixed.specs.declared.commands.pack.LinesRule.{LinesRule}
use Rattle.fixed.specs.declared.inputs.Job.{Job}
use Rattle.fixed.specs.declared.settings.PackInput.{PackInput}
use Rattle.fixed.specs.declared.settings.PackInput.TheVariants.{Numerals}
use Rattle.fixed.proofs.PackLemmas.{bit_lines_refused, bits_refused, floats_refused, numeral_lines_refused, numerals_refused}
use Rattle.fixed.proofs.commands.pack.binary_job.Goals as goal

pub returns-in-Ok-numerals_of-clause-refused : goal.returns-in-Ok-numerals_of-clause-refused
returns-in-Ok-numerals_of-clause-refused c =
    let given = c.args.given.now in
    let from = subst (IsNamed PackInput pack_input_text Numerals (value_of given (codes "from"))) c.in-Numerals.is c.in_ok-pack_input_of.ensures.value in
    IfErr-weaker c.lines_job.result (λ _. (by : LinesRule) (job : Job) → ¬ IsLinesJob given by job) (λ _. (job : Job) → ¬ IsBinaryPack given job)
    (λ e none job. numeral_lines_refused given c.in-Ok.format job c.in-Ok.ensures.value from none) c.lines_job.ensures.refused

pub returns-in-Err-numerals_of-clause-refused : goal.returns-in-Err-numerals_of-clause-refused
returns-in-Err-numerals_of-clause-refused c job asked =
    let given = c.args.given.now in
    let from = subst (IsNamed PackInput pack_input_text Numerals (value_of given (codes "from"))) c.in-Numerals.is c.in_ok-pack_input_of.ensures.value in
    numerals_refused given c.in-Ok.format job c.in-Ok.ensures.value from c.in-Err-numerals_of.ensures.refused asked

pub returns-in-Ok-bits_of-clause-refused : goal.returns-in-Ok-bits_of-clause-refused
returns-in-Ok-bits_of-clause-refused c =
    let given = c.args.given.now in
    let from = subst (IsNamed PackInput pack_input_text Numerals (value_of given (codes "from"))) c.in-Bits.is c.in_ok-pack_input_of.ensures.value in
    IfErr-weaker c.lines_job-in-Ok-bits_of.result (λ _. (by : LinesRule) (job : Job) → ¬ IsLinesJob given by job) (λ _. (job : Job) → ¬ IsBinaryPack given job)
    (λ e none job. bit_lines_refused given c.in-Ok.format job c.in-Ok.ensures.value from none) c.lines_job-in-Ok-bits_of.ensures.refused

pub returns-in-Err-bits_of-clause-refused : goal.returns-in-Err-bits_of-clause-refused
returns-in-Err-bits_of-clause-refused c job asked =
    let given = c.args.given.now in
    let from = subst (IsNamed PackInput pack_input_text Numerals (value_of given (codes "from"))) c.in-Bits.is c.in_ok-pack_input_of.ensures.value in
    bits_refused given c.in-Ok.format job c.in-Ok.ensures.value from c.in-Err-bits_of.ensures.refused asked

pub returns-in-Err-floats_of-clause-refused : goal.returns-in-Err-floats_of-clause-refused
returns-in-Err-floats_of-clause-refused c job asked =
    let given = c.args.given.now in
    let from = subst (IsNamed PackInput pack_input_text Numerals (value_of given (codes "from"))) c.in-Floats.is c.in_ok-pack_input_of.ensures.value in
    floats_refused given c.in-Ok.format c.in-Floats.layout job c.in-Ok.ensures.value from c.in-Err-floats_of.ensures.refused asked
