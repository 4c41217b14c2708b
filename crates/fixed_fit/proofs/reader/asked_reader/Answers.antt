use Rattle.std.proofs.Common.{[], ap, subst, sym, ◌∙◌}
use Rattle.std.specs.Prelude.{IfOk}
use Rattle.fixed_fit.specs.Inner.Reading.{HasRead}
use Rattle.fixed_fit.specs.Inner.Serving.{Asked, unbounded}
use Rattle.fixed_fit.specs.Run.{asked_by}
use Rattle.fixed_fit.proofs.reader.asked_reader.Goals as goal

pub returns-in-None : goal.returns-in-None
returns-in-None g c =
    let q = c.args.question.now in
    subst (λ (a : Asked). IfOk c.plain_reader.result (HasRead q.radix a c.args.layout.now [])) (ap (λ n. unbounded n q.fractions) c.width-width.ensures.width ∙ sym (ap (λ w. asked_by q w c.args.bound.now) c.in-None.is)) c.plain_reader.ensures

pub returns-in-Some : goal.returns-in-Some
returns-in-Some g c =
    let q = c.args.question.now in
    subst (λ (a : Asked). IfOk c.bounded_reader.result (HasRead q.radix a c.args.layout.now [])) (sym (ap (λ w. asked_by q w c.args.bound.now) c.in-Some.is)) c.bounded_reader.ensures
