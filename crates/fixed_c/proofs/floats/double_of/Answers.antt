use Rattle.std.proofs.Common.{rules, subst, sym, FitsSigned}
use Rattle.std.specs.Int.{w128, w64}
use Rattle.std.proofs.lemmas.Int.{to_z-of_z}
use Rattle.fixed_bits.specs.Formats.{FormatParts}
use Rattle.fixed_float.specs.Nearest.{IsNearestFloat}
use Rattle.fixed_float.specs.declared.layout.FloatLayout.TheVariants.{Binary64}
use Rattle.fixed_c.specs.Arguments.{NamesFormat}
use Rattle.fixed_c.specs.Floats.{IsDoubleOf}
use Rattle.fixed_c.specs.Numbers.{AreBitsOf}
use Rattle.fixed_c.proofs.floats.double_of.Goals as goal

pub binary64_of-requires : goal.binary64_of-requires
binary64_of-requires c =
    let number : FitsSigned w128 c.in_ok-number.number = search rules in
    rw (to_z-of_z w128 c.in_ok-number.number number) c.in_ok-number.ensures.number.in_range

pub returns : goal.returns
returns c =
    let f : FormatParts = c.in_ok-format.format in
    let given : FitsSigned w64 c.args.bits = search rules in
    let number : FitsSigned w128 c.in_ok-number.number = search rules in
    let are : AreBitsOf f c.args.bits c.in_ok-number.number = rw (to_z-of_z w64 c.args.bits given) at c.in_ok-number.ensures.number in
    let nearest : IsNearestFloat Binary64 c.in_ok-number.number f.frac c.binary64_of.result = rw (to_z-of_z w128 c.in_ok-number.number number) at c.binary64_of.ensures.nearest in
    let made : IsDoubleOf f c.args.bits c.binary64_of.result = record { format = (subst (λ (h : FormatParts). NamesFormat h) (sym c.in_ok-format.ensures.0) c.in_ok-format.ensures.1); number = c.in_ok-number.number; bits_are = are; nearest = nearest } in
    subst (λ (h : FormatParts). IsDoubleOf h c.args.bits c.binary64_of.result) c.in_ok-format.ensures.0 made
