use Rattle.std.proofs.Common.{rules, sym, subst, inr, FitsSigned}
use Rattle.std.specs.Int.{w128, w64}
use Rattle.std.proofs.lemmas.Int.{to_z-of_z}
use Rattle.std.proofs.lemmas.Result.{err_from_is_err_and}
use Rattle.fixed_bits.specs.Formats.{FormatParts}
use Rattle.fixed_write.specs.Styled.{IsStyledText}
use Rattle.fixed_c.specs.Arguments.{NamesFormat}
use Rattle.fixed_c.specs.Numbers.{AreBitsOf}
use Rattle.fixed_c.specs.Style.{IsPrintedIn}
use Rattle.fixed_c.proofs.style.in_style.Goals as goal

pub returns-in_err-style : goal.returns-in_err-style
returns-in_err-style c =
    let given : FitsSigned w64 c.args.bits = search rules in
    let are : AreBitsOf c.in_ok-format.format c.args.bits c.in_ok-number.number = rw (to_z-of_z w64 c.args.bits given) at c.in_ok-number.ensures.number in
    let p = err_from_is_err_and c.from_residual-in_err-style.result c.from_residual-in_err-style.ensures.1 in
    rw (p.1, p.2)
    (inr (
      c.in_ok-format.ensures.1,
      inr (
        (c.in_ok-number.number, subst (λ (h : FormatParts). AreBitsOf h c.args.bits c.in_ok-number.number) c.in_ok-format.ensures.0 are),
        c.in_err-style.ensures,
      ),
    ))

pub returns : goal.returns
returns c =
    let f : FormatParts = c.in_ok-format.format in
    let given : FitsSigned w64 c.args.bits = search rules in
    let number : FitsSigned w128 c.in_ok-number.number = search rules in
    let are : AreBitsOf f c.args.bits c.in_ok-number.number = rw (to_z-of_z w64 c.args.bits given) at c.in_ok-number.ensures.number in
    let styled : IsStyledText c.in_ok-style.style c.in_ok-number.number f.frac c.text_in_style.result =
    rw (to_z-of_z w128 c.in_ok-number.number number, c.frac.ensures.frac) at c.text_in_style.ensures in
    let made : IsPrintedIn f c.args.bits c.args.style.now c.text_in_style.result = record {
      format = subst (λ (h : FormatParts). NamesFormat h) (sym c.in_ok-format.ensures.0) c.in_ok-format.ensures.1;
      number = c.in_ok-number.number;
      bits_are = are;
      style = c.in_ok-style.style;
      style_is = c.in_ok-style.ensures;
      styled = styled;
    } in
    subst (λ (h : FormatParts). IsPrintedIn h c.args.bits c.args.style.now c.text_in_style.result) c.in_ok-format.ensures.0 made
