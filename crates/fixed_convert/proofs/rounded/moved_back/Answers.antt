use Rattle.std.proofs.Common.{rules, subst, ◌≡◌, ◌∙◌, FitsSigned, arith, ℤ}
use Rattle.std.specs.Int.{w128}
use Rattle.std.proofs.lemmas.Int.{to_z-of_z}
use Rattle.fixed_bits.specs.Numbers.{with_sign}
use Rattle.fixed_convert.specs.Rounded.{IsMovedIn}
use Rattle.fixed_convert.proofs.RoundedLemmas.{moved_parts}
use Rattle.fixed_convert.proofs.rounded.moved_back.Goals as goal

pub returns : goal.returns
returns c =
    let signed : FitsSigned w128 c.signed_number.result = search rules in
    let negative = c.sign_and_magnitude-negative.result.0 in
    let magnitude = c.sign_and_magnitude-negative.result.1 in
    let ulps = c.rounded_quotient-ulps.result in
    let is : with_sign negative magnitude ≡ c.args.b = c.sign_and_magnitude-negative.ensures.value ∙ to_z-of_z w128 c.args.b c.ranges.b in
    let moved = moved_parts c.args.mode negative magnitude c.args.from c.args.to ulps (omega arith) c.rounded_quotient-ulps.ensures in
    rw (to_z-of_z w128 c.signed_number.result signed, c.signed_number.ensures)
    (subst (λ (b : ℤ). IsMovedIn c.args.mode b c.args.from c.args.to (with_sign negative ulps)) is moved)
