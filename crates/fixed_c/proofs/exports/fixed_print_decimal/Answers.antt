use Rattle.std.proofs.Common.{rules, FitsSigned}
use Rattle.std.specs.Int.{w64}
use Rattle.std.proofs.lemmas.Int.{to_z-of_z}
use Rattle.fixed_c.proofs.exports.fixed_print_decimal.Goals as goal

pub returns : goal.returns
returns c =
    let given : FitsSigned w64 c.args.bits = search rules in
    rw (to_z-of_z w64 c.args.bits given) at c.print_decimal.ensures
