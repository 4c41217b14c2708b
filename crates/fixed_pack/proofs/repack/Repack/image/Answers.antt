use Rattle.std.proofs.Common.{rules, FitsSigned}
use Rattle.std.proofs.lemmas.Int.{to_z-of_z}
use Rattle.std.specs.Int.{w128}
use Rattle.fixed_bits.proofs.Public.{in_wide, width_most}
use Rattle.fixed_pack.proofs.repack.Repack.image.Goals as goal

pub reformat_mode-requires-clause-wide : goal.reformat_mode-requires-clause-wide
reformat_mode-requires-clause-wide c =
    let f = c.args.self.now.source in
    let fits : FitsSigned w128 c.args.bits = search rules in
    rw (to_z-of_z w128 c.args.bits fits) (in_wide f.signed f.width c.args.bits (width_most f.width c.frac_of-from.ensures.valid.is_width) c.requires)
