use Rattle.std.proofs.Common.{FitsSigned, rules}
use Rattle.std.specs.Int.{w128}
use Rattle.std.proofs.lemmas.Int.{to_z-of_z}
use Rattle.fixed_point.proofs.printing.FixedDisplay.fmt.Goals as goal

pub returns-clause-writes : goal.returns-clause-writes
returns-clause-writes g c =
    let v : FitsSigned w128 c.value.result = search rules in
    rw (to_z-of_z w128 c.value.result v, c.value.ensures.number, c.to_bits.ensures, c.BITS.ensures) at c.write_number.ensures.writes

pub returns-clause-styled : goal.returns-clause-styled
returns-clause-styled g c =
    let v : FitsSigned w128 c.value.result = search rules in
    rw (to_z-of_z w128 c.value.result v, c.value.ensures.number, c.to_bits.ensures, c.BITS.ensures) at c.write_number.ensures.styled
