use Rattle.std.proofs.Common.{rules, FitsSigned}
use Rattle.std.specs.Int.{w64}
use Rattle.std.proofs.lemmas.Int.{to_z-of_z}
use Rattle.fixed_c.specs.Convert.{PrintIsRefused}
use Rattle.fixed_c.specs.Floats.{IsDoubleOf}
use Rattle.fixed_c.specs.Numbers.{format_of}
use Rattle.fixed_c.proofs.EndLemmas.{handed}
use Rattle.fixed_c.proofs.exports.fixed_double_of_bits.Goals as goal

pub returns : goal.returns
returns c =
    let given : FitsSigned w64 c.args.bits = search rules in
    let ends = rw (to_z-of_z w64 c.args.bits given) at c.double_of.ensures in
    handed c.double_of.result (IsDoubleOf (format_of c.args.format.is_signed c.args.format.width c.args.format.frac) c.args.bits) (PrintIsRefused (format_of c.args.format.is_signed c.args.format.width c.args.format.frac) c.args.bits) c.args.out.now c.hand_over.new.out c.hand_over.result ends c.hand_over.ensures
