use Rattle.std.proofs.Common.{◌∙◌, ap, take}
use Rattle.std.proofs.lemmas.List.{take_min}
use Rattle.fixed_fields.proofs.answer.given_bytes.Goals as goal

pub returns-clause-value : goal.returns-clause-value
returns-clause-value c = ap (λ n. take n c.args.word.now) c.min.ensures ∙ take_min 84 c.args.word.now
