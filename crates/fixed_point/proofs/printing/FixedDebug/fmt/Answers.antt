use Rattle.std.proofs.Common.{FitsSigned, rules}
use Rattle.std.specs.Int.{w128}
use Rattle.std.proofs.lemmas.Int.{to_z-of_z}
use Rattle.fixed_point.proofs.printing.FixedDebug.fmt.Goals as goal

pub returns : goal.returns
returns g c =
    let v : FitsSigned w128 c.value.result = search rules in
    record { writes = rw (to_z-of_z w128 c.value.result v, c.value.ensures.number, c.to_bits.ensures, c.BITS.ensures) at c.write_number.ensures.writes }
