use Rattle.std.proofs.Common.{rules, FitsSigned}
use Rattle.std.specs.Int.{w64}
use Rattle.std.proofs.lemmas.Int.{to_z-of_z}
use Rattle.fixed_c.specs.Convert.{CompareIsRefused, IsCompared}
use Rattle.fixed_c.specs.Numbers.{format_of}
use Rattle.fixed_c.proofs.EndLemmas.{handed}
use Rattle.fixed_c.proofs.exports.fixed_compare_bits.Goals as goal

pub returns : goal.returns
returns c =
    let first : FitsSigned w64 c.args.a = search rules in
    let second : FitsSigned w64 c.args.b = search rules in
    let ends = rw (to_z-of_z w64 c.args.a first, to_z-of_z w64 c.args.b second) at c.order_by_value.ensures in
    handed c.order_by_value.result (IsCompared (format_of c.args.a_format.is_signed c.args.a_format.width c.args.a_format.frac) (format_of c.args.b_format.is_signed c.args.b_format.width c.args.b_format.frac) c.args.a c.args.b) (CompareIsRefused (format_of c.args.a_format.is_signed c.args.a_format.width c.args.a_format.frac) (format_of c.args.b_format.is_signed c.args.b_format.width c.args.b_format.frac) c.args.a c.args.b) c.args.order.now c.hand_over.new.out c.hand_over.result ends c.hand_over.ensures
