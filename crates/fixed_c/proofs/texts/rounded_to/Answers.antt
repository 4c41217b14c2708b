use Rattle.std.proofs.Common.{rules, arith, subst, sym, refl, inl, inr, FitsSigned, ◌≡◌}
use Rattle.std.specs.Int.{w128, w64}
use Rattle.std.proofs.lemmas.Int.{to_z-of_z}
use Rattle.std.proofs.lemmas.Result.{err_from_is_err_and}
use Rattle.fixed_bits.specs.Formats.{FormatParts}
use Rattle.fixed_c.specs.Arguments.{NamesFormat}
use Rattle.fixed_c.specs.Convert.{IsPrintedTo}
use Rattle.fixed_write.specs.Places.{IsRoundedText, rounded_text}
use Rattle.std.proofs.Common.{false}
use Rattle.fixed_c.specs.Numbers.{AreBits, AreBitsOf}
use Rattle.fixed_c.proofs.texts.rounded_to.Goals as goal

pub returns-in_err-mode : goal.returns-in_err-mode
returns-in_err-mode c =
    let p = err_from_is_err_and c.from_residual-in_err-mode.result c.from_residual-in_err-mode.ensures.1 in
    rw (p.1, p.2) (inr (c.in_ok-format.ensures.1, inl c.in_err-mode.ensures))

pub returns-in_err-number : goal.returns-in_err-number
returns-in_err-number c =
    let given : FitsSigned w64 c.args.bits = search rules in
    let bad : ¬ AreBits c.in_ok-format.format c.args.bits = rw (to_z-of_z w64 c.args.bits given) at c.in_err-number.ensures.number.0 in
    let p = err_from_is_err_and c.from_residual-in_err-number.result c.from_residual-in_err-number.ensures.1 in
    rw (p.1, p.2) (inr (c.in_ok-format.ensures.1, inr ((c.in_ok-mode.mode, c.in_ok-mode.ensures), inl (subst (λ (h : FormatParts). ¬ AreBits h c.args.bits) c.in_ok-format.ensures.0 bad, c.in_err-number.ensures.number.1))))

pub returns-then-places-gt64 : goal.returns-then-places-gt64
returns-then-places-gt64 c =
    let given : FitsSigned w64 c.args.bits = search rules in
    let are : AreBitsOf c.in_ok-format.format c.args.bits c.in_ok-number.number = rw (to_z-of_z w64 c.args.bits given) at c.in_ok-number.ensures.number in
    inr (c.in_ok-format.ensures.1, inr ((c.in_ok-mode.mode, c.in_ok-mode.ensures), inr ((c.in_ok-number.number, subst (λ (h : FormatParts). AreBitsOf h c.args.bits c.in_ok-number.number) c.in_ok-format.ensures.0 are), inl (λ few. omega (arith, c.if-places-gt64.true), refl))))

pub returns : goal.returns
returns c =
    let f : FormatParts = c.in_ok-format.format in
    let given : FitsSigned w64 c.args.bits = search rules in
    let number : FitsSigned w128 c.in_ok-number.number = search rules in
    let are : AreBitsOf f c.args.bits c.in_ok-number.number = rw (to_z-of_z w64 c.args.bits given) at c.in_ok-number.ensures.number in
    let appended = rw (to_z-of_z w128 c.in_ok-number.number number, c.frac.ensures.frac) at c.push_decimal.ensures.appended in
    let text : c.push_decimal.new.out ≡ rounded_text c.in_ok-mode.mode 10 false c.args.places c.in_ok-number.number f.frac = search (rules, appended) in
    let rounded : IsRoundedText c.in_ok-mode.mode 10 false c.args.places c.in_ok-number.number f.frac (rounded_text c.in_ok-mode.mode 10 false c.args.places c.in_ok-number.number f.frac) =
    rw (to_z-of_z w128 c.in_ok-number.number number, c.frac.ensures.frac) at c.push_decimal.ensures.rounded in
    let made : IsPrintedTo f c.args.bits c.args.places c.args.mode c.push_decimal.new.out = record {
      format = subst (λ (h : FormatParts). NamesFormat h) (sym c.in_ok-format.ensures.0) c.in_ok-format.ensures.1;
      number = c.in_ok-number.number;
      bits_are = are;
      few = c.if-places-gt64.false;
      the_mode = c.in_ok-mode.mode;
      mode_is = c.in_ok-mode.ensures;
      rounded = rw text rounded;
    } in
    subst (λ (h : FormatParts). IsPrintedTo h c.args.bits c.args.places c.args.mode c.push_decimal.new.out) c.in_ok-format.ensures.0 made
