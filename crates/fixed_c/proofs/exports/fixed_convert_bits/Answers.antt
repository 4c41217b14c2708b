use Rattle.std.proofs.Common.{rules, FitsSigned}
use Rattle.std.specs.Int.{w64}
use Rattle.std.proofs.lemmas.Int.{to_z-of_z}
use Rattle.fixed_c.specs.Convert.{ConvertIsRefused, IsConverted}
use Rattle.fixed_c.specs.Numbers.{format_of}
use Rattle.fixed_c.specs.declared.number.FixedNumber.{FixedNumber}
use Rattle.fixed_c.proofs.EndLemmas.{handed}
use Rattle.fixed_c.proofs.exports.fixed_convert_bits.Goals as goal

pub returns : goal.returns
returns c =
    let given : FitsSigned w64 c.args.bits = search rules in
    let ends = rw (to_z-of_z w64 c.args.bits given) at c.convert.ensures in
    handed c.convert.result (λ (n : FixedNumber). IsConverted (format_of c.args.source.is_signed c.args.source.width c.args.source.frac) (format_of c.args.target.is_signed c.args.target.width c.args.target.frac) c.args.policy c.args.bits n.bits n.overflowed) (ConvertIsRefused (format_of c.args.source.is_signed c.args.source.width c.args.source.frac) (format_of c.args.target.is_signed c.args.target.width c.args.target.frac) c.args.policy c.args.bits) c.args.out.now c.hand_over.new.out c.hand_over.result ends c.hand_over.ensures
