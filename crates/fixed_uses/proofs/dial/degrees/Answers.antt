use Rattle.std.proofs.Common.{FitsSigned, rules, w8}
use Rattle.std.proofs.lemmas.Int.{to_z-of_z}
use Rattle.fixed_bits.specs.Down.{down}
use Rattle.fixed_bits.proofs.Public.{down_is}
use Rattle.fixed_uses.proofs.DialLemmas.{on_dial}
use Rattle.fixed_uses.proofs.dial.degrees.Goals as goal

pub returns : goal.returns
returns c =
    let fits : FitsSigned w8 c.saturating_to_num.result = search rules in
    rw (to_z-of_z w8 c.saturating_to_num.result fits) (on_dial c.args.reading (down c.args.reading 16 0) c.saturating_to_num.result (down_is c.args.reading 16 0) c.saturating_to_num.ensures)
