use Rattle.std.proofs.Common.{◌≡◌, rules}
use Rattle.fixed_bits.specs.Numbers.{with_sign}
use Rattle.fixed_write.proofs.integer.push_integer.Goals as goal

pub returns : goal.returns
returns g c =
    let same : with_sign c.sign_and_magnitude-negative.result.0 c.sign_and_magnitude-negative.result.1 ≡ c.args.value = search (rules, c.sign_and_magnitude-negative.ensures.value) in
    rw same at c.push_signed_integer.ensures
