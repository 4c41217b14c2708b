use Rattle.std.proofs.Common.{rules, refl, inr, FitsSigned}
use Rattle.std.specs.Int.{w64}
use Rattle.std.proofs.lemmas.Int.{to_z-of_z}
use Rattle.fixed_c.proofs.place_rows.places_row.Goals as goal

pub returns-in-Err : goal.returns-in-Err
returns-in-Err c =
    let given : FitsSigned w64 c.args.bits = search rules in
    inr (c.in-Err.refusal, c.code.ensures, rw (to_z-of_z w64 c.args.bits given) at c.in-Err.ensures, refl)
