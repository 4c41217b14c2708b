use Rattle.std.proofs.Common.{rules, FitsSigned}
use Rattle.std.specs.Int.{w64}
use Rattle.std.proofs.lemmas.Int.{to_z-of_z}
use Rattle.fixed_c.proofs.float_rows.double_of_row.Goals as goal

pub returns : goal.returns
returns c =
    let fits : FitsSigned w64 c.bits_at-given.result = search rules in
    let ends = rw (to_z-of_z w64 c.bits_at-given.result fits) at c.fixed_double_of_bits-code.ensures in
    rw c.bits_at-given.ensures at ends
