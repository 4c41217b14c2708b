use Rattle.std.proofs.Common.{◌≡◌, ◌||◌, FitsSigned, ℤ, refl, rules, subst, sym}
use Rattle.std.specs.Int.{w128}
use Rattle.std.proofs.lemmas.Int.{to_z-of_z}
use Rattle.fixed_bits.specs.Numbers.{with_sign}
use Rattle.fixed_bits.specs.Ranges.{IsWide}
use Rattle.fixed_convert.specs.Rounded.{IsReformatted}
use Rattle.fixed_command.specs.Moved.{HasImage}
use Rattle.fixed_command.proofs.convert.image_of.Goals as goal

pub returns-in-Some-clause-image : goal.returns-in-Some-clause-image
returns-in-Some-clause-image c =
    let s = c.args.settings.now in
    let bits : ℤ = c.in-Some.bits in
    let fits : FitsSigned w128 bits = search rules in
    let is : with_sign c.sign_and_magnitude-negative.result.0 c.sign_and_magnitude-negative.result.1 ≡ bits = rw (to_z-of_z w128 bits fits) at c.sign_and_magnitude-negative.ensures.value in
    let moved : IsReformatted s.target_mode s.policy s.target c.args.found.now.bits s.source.frac bits c.in-Some.target_overflowed = search (rules, c.in-Some.ensures.moved, c.frac_of-from.ensures.value) in
    let wide : IsWide bits = search (rules, c.in-Some.ensures.wide) in
    subst (λ b. HasImage s c.args.found.now.bits c.args.found.now.overflowed b (c.args.found.now.overflowed || c.in-Some.target_overflowed)) (sym is) (record { target_out = c.in-Some.target_overflowed; moved = moved; wide = wide; is_out_is = refl })
