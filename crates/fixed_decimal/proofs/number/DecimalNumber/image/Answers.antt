use Rattle.std.proofs.Common.{ℤ, FitsSigned, rules, sym, subst, true}
use Rattle.std.specs.Int.{w64, w128}
use Rattle.std.proofs.lemmas.Int.{to_z-of_z}
use Rattle.fixed_bits.specs.Images.{IsImage}
use Rattle.fixed_bits.proofs.Public.{admitted_none}
use Rattle.fixed_decimal.proofs.number.DecimalNumber.image.Goals as goal

pub returns-in-Some-clause-none : goal.returns-in-Some-clause-none
returns-in-Some-clause-none c v is = rw (c.words.ensures.signed, c.words.ensures.width) at (admitted_none c.args.policy _ _ v c.image.result.is_out_of_range _ c.in-Some.ensures.none (c.image.ensures.flag v is))

pub returns-in-Some-clause-image : goal.returns-in-Some-clause-image
returns-in-Some-clause-image c v is =
    let units : ℤ = c.in-Some.units in
    let p = c.args.policy in
    let wide : FitsSigned w128 units = search rules in
    let narrow : FitsSigned w64 units = search rules in
    let admitted = c.in-Some.ensures.image in
    let image = rw (c.words.ensures.signed, c.words.ensures.width) at (c.image.ensures.image v is admitted.0) in
    rw (to_z-of_z w128 units wide, to_z-of_z w64 units narrow) (subst (λ (u : ℤ). IsImage p true 64 v u) (sym admitted.1) image)
