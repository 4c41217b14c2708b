use Rattle.std.proofs.Common.{ℕ, [], true, subst, ◌∙◌, ap}
use Rattle.fixed_fit.specs.Inner.Reading.{HasRead}
use Rattle.fixed_fit.specs.Inner.Serving.{bounded}
use Rattle.fixed_fit.specs.Within.{most_width}
use Rattle.fixed_fit.proofs.reader.bounded_reader.Goals as goal

pub returns-in-Ok : goal.returns-in-Ok
returns-in-Ok g c =
    let q = c.args.question.now in
    let widths = c.args.widths in
    let bound = c.args.bound.now in
    let most = c.most_width-most.ensures.most ∙ ap (λ (n : ℕ). most_width widths n) c.width-one.ensures.width in
    subst (λ (n : ℕ). HasRead q.radix (bounded q.is_range n q.fractions bound widths q.kind.width) c.args.layout.now [] c.in-Ok.reader) most
    (c.in-Ok.ensures true q.is_range bound widths q.kind.width c.in_ok-within.ensures.is_bounded (λ _. c.in_ok-within.ensures.served c.most_width-most.result))
