use Rattle.std.proofs.Common.{List, ℕ, ap}
use Rattle.line_engine.specs.Refusals.{refusal_text}
use Rattle.fixed_arrays.proofs.literal_rule.other_format.Goals as goal

pub returns-in-Ok-clause-text : goal.returns-in-Ok-clause-text
returns-in-Ok-clause-text c = ap (λ (m : List ℕ). refusal_text c.args.line m) c.in-Ok.ensures
