use Rattle.std.proofs.Common.{rules, subst, sym, FitsSigned}
use Rattle.std.specs.Int.{w128, w64}
use Rattle.std.proofs.lemmas.Int.{to_z-of_z}
use Rattle.fixed_bits.specs.Formats.{FormatParts}
use Rattle.fixed_write.specs.Texts.{IsShortestText}
use Rattle.fixed_c.specs.Arguments.{NamesFormat}
use Rattle.fixed_c.specs.Convert.{IsPrinted}
use Rattle.fixed_c.specs.Numbers.{AreBitsOf}
use Rattle.fixed_c.proofs.texts.shortest_of.Goals as goal

pub returns : goal.returns
returns c =
    let f : FormatParts = c.in_ok-format.format in
    let given : FitsSigned w64 c.args.bits = search rules in
    let number : FitsSigned w128 c.in_ok-number.number = search rules in
    let are : AreBitsOf f c.args.bits c.in_ok-number.number = rw (to_z-of_z w64 c.args.bits given) at c.in_ok-number.ensures.number in
    let shortest : IsShortestText c.in_ok-number.number f.frac c.shortest_uncounted.result = rw (to_z-of_z w128 c.in_ok-number.number number, c.frac.ensures.frac) at c.shortest_uncounted.ensures in
    let made : IsPrinted f c.args.bits c.shortest_uncounted.result = record { format = (subst (λ (h : FormatParts). NamesFormat h) (sym c.in_ok-format.ensures.0) c.in_ok-format.ensures.1); number = c.in_ok-number.number; bits_are = are; shortest = shortest } in
    subst (λ (h : FormatParts). IsPrinted h c.args.bits c.shortest_uncounted.result) c.in_ok-format.ensures.0 made
