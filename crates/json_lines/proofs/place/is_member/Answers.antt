use Rattle.std.proofs.Common.{◌∙◌, Some, ap, sym, ⊎_elim}
use Rattle.json_lines.specs.Path.{step_of}
use Rattle.json_lines.specs.Places.{matches, object}
use Rattle.json_lines.proofs.PlaceLemmas.{none_at, step_at}
use Rattle.json_lines.proofs.place.is_member.Goals as goal

pub returns-then-index-steps : goal.returns-then-index-steps
returns-then-index-steps c = sym (none_at c.args.steps.now c.args.index (object (Some c.args.name.now)) c.if-index-steps.true)

pub returns-in-Member : goal.returns-in-Member
returns-in-Member c = c.eq.ensures ∙ sym (step_at c.args.steps.now c.args.index (object (Some c.args.name.now)) _ c.if-index-steps.false ∙ ap (λ s. matches (step_of s) (object (Some c.args.name.now))) c.in-Member.is)

pub returns-in-Element : goal.returns-in-Element
returns-in-Element c =
    let name = object (Some c.args.name.now) in
    ⊎_elim
    (λ e. sym (step_at c.args.steps.now c.args.index name _ c.if-index-steps.false ∙ ap (λ s. matches (step_of s) name) e.1))
    (λ e. sym (step_at c.args.steps.now c.args.index name _ c.if-index-steps.false ∙ ap (λ s. matches (step_of s) name) e))
    c.in-Element.is
