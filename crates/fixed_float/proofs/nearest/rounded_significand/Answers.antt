use Rattle.std.proofs.Common.{◌+◌, ◌-◌, ◌*◌, ◌/◌, ◌%◌, ◌^◌, ℕ, inl, refl, subst}
use Rattle.fixed_bits.specs.Nearest.{IsNearest}
use Rattle.fixed_float.proofs.NearestLemmas.{rounded_is}
use Rattle.fixed_float.proofs.nearest.rounded_significand.Goals as goal

pub returns : goal.returns
returns c =
    let m : ℕ = c.args.magnitude in
    let down : ℕ = c.args.length - c.args.precision in
    let more : ℕ = c.mode_increment.result in
    let rounded = c.mode_increment.ensures.rounded (m / 2 ^ down) c.power_of_two-ulp.result refl (inl refl) in
    let nearest : IsNearest (m / 2 ^ down * 2 ^ down + m % 2 ^ down) (2 ^ down) (m / 2 ^ down + more) = subst (λ (u : ℕ). IsNearest (m / 2 ^ down * u + m % u) u (m / 2 ^ down + more)) c.power_of_two-ulp.ensures.power rounded in
    rounded_is c.args.precision m c.args.length more c.requires.precision c.requires.length c.requires.long nearest c.mode_increment.ensures.most
