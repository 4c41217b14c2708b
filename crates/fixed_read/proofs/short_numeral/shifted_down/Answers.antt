use Rattle.std.proofs.Common.{◌^◌, arith, div-add-mod', mod-lt, pow_pos}
use Rattle.fixed_read.proofs.ShortNumeralLemmas.{half_of}
use Rattle.fixed_read.proofs.short_numeral.shifted_down.Goals as goal

pub returns-then-by-ge64 : goal.returns-then-by-ge64
returns-then-by-ge64 c = (c.args.digits, omega arith, c.lost_far_down.ensures)

pub lost_fraction_of_bits-requires : goal.lost_fraction_of_bits-requires
lost_fraction_of_bits-requires c =
    let two = half_of c.args.by c.requires.some in
    rw (c.power_of_two.ensures, ← two, c.shl_u64.ensures) (omega (arith, div-add-mod' c.args.digits (2 ^ c.args.by), mod-lt c.args.digits (pow_pos c.args.by)))
