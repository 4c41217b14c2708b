use Rattle.std.proofs.Common.{arith, ◌≡◌, ◌∙◌, sym, ◌-◌}
use Rattle.std.specs.Int.{w128}
use Rattle.std.proofs.lemmas.Int.{to_z-of_z}
use Rattle.fixed_bits.proofs.Public.{grown}
use Rattle.fixed_point.proofs.conversion.ulps_of_whole.Goals as goal

pub returns-clause-number : goal.returns-clause-number
returns-clause-number c =
    let f = c.args.frac in
    let all : f - 0 ≡ f = omega arith in
    (rw (to_z-of_z w128 c.args.value c.ranges.value) at c.floor_into.ensures.number) ∙ sym (rw all at (grown c.args.value 0 f (omega arith)))
