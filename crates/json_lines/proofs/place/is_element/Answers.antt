use Rattle.std.proofs.Common.{◌==◌, ◌∙◌, ap, sym}
use Rattle.json_lines.specs.Path.{step_of}
use Rattle.json_lines.specs.Places.{element, matches}
use Rattle.json_lines.proofs.PlaceLemmas.{none_at, step_at}
use Rattle.json_lines.proofs.place.is_element.Goals as goal

pub returns-then-index-steps : goal.returns-then-index-steps
returns-then-index-steps c = sym (none_at c.args.steps.now c.args.index (element c.args.number) c.if-index-steps.true)

pub returns-in-Member : goal.returns-in-Member
returns-in-Member c = sym (step_at c.args.steps.now c.args.index (element c.args.number) _ c.if-index-steps.false ∙ ap (λ s. matches (step_of s) (element c.args.number)) c.in-Member.is)

pub returns-in-Element : goal.returns-in-Element
returns-in-Element c = ap (λ n. n == c.args.number) c.from.ensures ∙ sym (step_at c.args.steps.now c.args.index (element c.args.number) _ c.if-index-steps.false ∙ ap (λ s. matches (step_of s) (element c.args.number)) c.in-Element.is)

pub returns-in-Every : goal.returns-in-Every
returns-in-Every c = sym (step_at c.args.steps.now c.args.index (element c.args.number) _ c.if-index-steps.false ∙ ap (λ s. matches (step_of s) (element c.args.number)) c.in-Every.is)
