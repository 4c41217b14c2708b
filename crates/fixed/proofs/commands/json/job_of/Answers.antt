use Rattle.std.proofs.Common.{inl, inr, map}
use Rattle.json_lines.specs.Path.{step_of}
use Rattle.fixed.proofs.commands.json.job_of.Goals as goal

pub returns-in-Err-clause-refused : goal.returns-in-Err-clause-refused
returns-in-Err-clause-refused c = elim c.in-Err.ensures.refused [ inl memory ↦ inl memory | inr none ↦ inr (λ job files asked. none (map step_of job.steps.items) asked.path) ]

pub returns-clause-refused : goal.returns-clause-refused
returns-clause-refused c = inr (λ job files asked. c.in-Err-rule_of.ensures.refused job.rule job.quotes files asked.rule)
