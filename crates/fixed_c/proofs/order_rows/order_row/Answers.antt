use Rattle.std.proofs.Common.{rules, FitsSigned}
use Rattle.std.specs.Int.{w32, w64}
use Rattle.std.proofs.lemmas.Int.{to_z-of_z}
use Rattle.fixed_c.proofs.order_rows.order_row.Goals as goal

pub returns : goal.returns
returns c =
    let first : FitsSigned w64 c.bits_at-left.result = search rules in
    let second : FitsSigned w64 c.bits_at-right.result = search rules in
    let order : FitsSigned w32 c.fixed_compare_bits-code.new.order = search rules in
    let ends = rw (to_z-of_z w64 c.bits_at-left.result first, to_z-of_z w64 c.bits_at-right.result second) at c.fixed_compare_bits-code.ensures in
    let here = rw (c.bits_at-left.ensures, c.bits_at-right.ensures) at ends in
    rw (to_z-of_z w32 c.fixed_compare_bits-code.new.order order) here
