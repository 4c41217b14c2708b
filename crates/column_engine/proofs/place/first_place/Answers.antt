use Rattle.std.proofs.Common.{◌≡◌, arith, false, get_or, sym, ◌∙◌}
use Rattle.std.specs.Prelude.{◌==◌}
use Rattle.column_engine.proofs.PlaceLemmas.{first_inside, first_nothing}
use Rattle.column_engine.proofs.place.first_place.Goals as goal

pub returns-then-is_empty : goal.returns-then-is_empty
returns-then-is_empty c = λ d. first_nothing d c.args.body.now (sym c.is_empty.ensures ∙ c.if-is_empty.true)

pub returns-else-body-eq34 : goal.returns-else-body-eq34
returns-else-body-eq34 c =
    let other : (get_or c.args.body.now 0 0 == 34) ≡ false = grind (arith, c.if-body-eq34.false) in
    λ d. first_inside d c.args.body.now other
