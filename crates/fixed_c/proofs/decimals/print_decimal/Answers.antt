use Rattle.std.proofs.Common.{rules, refl, inl, inr, FitsSigned}
use Rattle.std.specs.Int.{w64}
use Rattle.std.proofs.lemmas.Int.{to_z-of_z}
use Rattle.fixed_c.proofs.decimals.print_decimal.Goals as goal

pub returns-in-Err : goal.returns-in-Err
returns-in-Err c = inr (c.in-Err.refusal, c.code.ensures, c.in-Err.ensures, refl, refl)

pub returns-in-Ok : goal.returns-in-Ok
returns-in-Ok c =
    let given : FitsSigned w64 c.args.bits = search rules in
    let right = rw (to_z-of_z w64 c.args.bits given) at c.in-Ok.ensures in
    inl (c.as_bytes.result.now, rw c.as_bytes.ensures.value right, c.put_text.ensures)
