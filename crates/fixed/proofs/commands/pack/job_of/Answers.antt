use Rattle.std.proofs.lemmas.Result.{IfErr-weaker}
use Rattle.fixed.specs.Packing.{IsAmountPack, IsBinaryPack, IsPackAsked}
use Rattle.fixed.specs.declared.inputs.Job.{Job}
use Rattle.fixed.proofs.PackLemmas.{binary_pack_refused, decimal_refused}
use Rattle.fixed.proofs.commands.pack.job_of.Goals as goal

pub returns-in-Some-clause-refused : goal.returns-in-Some-clause-refused
returns-in-Some-clause-refused c =
    let given = c.args.given.now in
    IfErr-weaker c.decimal_job.result (λ _. (job : Job) → ¬ IsAmountPack given c.in-Some.format job) (λ _. (job : Job) → ¬ IsPackAsked given job)
    (λ e none job. decimal_refused given c.in-Some.format job c.in-Some.ensures (none job)) c.decimal_job.ensures.refused

pub returns-in-None-clause-refused : goal.returns-in-None-clause-refused
returns-in-None-clause-refused c =
    let given = c.args.given.now in
    IfErr-weaker c.binary_job.result (λ _. (job : Job) → ¬ IsBinaryPack given job) (λ _. (job : Job) → ¬ IsPackAsked given job)
    (λ e none job. binary_pack_refused given job c.in-None.ensures (none job)) c.binary_job.ensures.refused
