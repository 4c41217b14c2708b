use Rattle.std.proofs.Common.{◌≡◌, ◌-◌, ◌^◌, arith}
use Rattle.fixed_constants.proofs.FormLemmas.{negative_lowest, negative_other}
use Rattle.fixed_constants.proofs.sources.push_c_negative.Goals as goal

pub returns-then-magnitude-lowest_magnitude : goal.returns-then-magnitude-lowest_magnitude
returns-then-magnitude-lowest_magnitude c =
    let same : c.args.magnitude ≡ 2 ^ (c.args.format.width - 1) = omega (arith, c.if-magnitude-lowest_magnitude.true, c.lowest_magnitude.ensures.value) in
    rw (negative_lowest c.args.format c.args.magnitude same) c.push_c_lowest.ensures

pub returns-else-magnitude-lowest_magnitude : goal.returns-else-magnitude-lowest_magnitude
returns-else-magnitude-lowest_magnitude c =
    let differs : c.args.magnitude ≡ 2 ^ (c.args.format.width - 1) → ⊥ = λ e. omega (arith, e, c.if-magnitude-lowest_magnitude.false, c.lowest_magnitude.ensures.value) in
    rw (negative_other c.args.format c.args.magnitude differs) c.push_c_minus.ensures
