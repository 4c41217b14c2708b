use Rattle.std.proofs.Common.{◌≡◌, ◌-◌, ℕ, suc, arith, subst}
use Rattle.std.proofs.lemmas.Nat.{leading_top}
use Rattle.std.specs.Int.Count.{count_leading_zeros}
use Rattle.fixed_float.specs.Inner.Fields.{HasLength}
use Rattle.fixed_float.proofs.NearestLemmas.{has_length}
use Rattle.fixed_float.proofs.nearest.length_of.Goals as goal

pub returns : goal.returns
returns c =
    let m : ℕ = c.args.magnitude in
    let top = leading_top 64 m c.requires (omega arith) in
    let e : suc top.0 ≡ 64 - count_leading_zeros 64 m = omega (arith, top.1) in
    subst (λ (x : ℕ). HasLength m x) e (has_length m top.0 top.2 top.3 (omega (arith, top.1)))
