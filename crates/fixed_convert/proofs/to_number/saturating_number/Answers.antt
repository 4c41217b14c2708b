use Rattle.std.specs.Int.{w128}
use Rattle.std.proofs.lemmas.Int.{to_z-of_z}
use Rattle.fixed_convert.proofs.to_number.saturating_number.Goals as goal

pub returns : goal.returns
returns g c = rw (g.met.D.NumTarget.signed_law, g.met.D.NumTarget.bits_law, c.from_holder.ensures) (rw (to_z-of_z w128 c.args.b c.ranges.b, c.FRAC.ensures) at c.saturating_bits.ensures)
