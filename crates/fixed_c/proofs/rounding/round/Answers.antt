use Rattle.std.proofs.Common.{rules, subst, sym, refl, inl, inr, FitsSigned, ◌≡◌}
use Rattle.std.specs.Int.{w128, w64}
use Rattle.std.proofs.lemmas.Int.{to_z-of_z}
use Rattle.std.proofs.lemmas.Result.{err_from_is_err_and}
use Rattle.fixed_bits.specs.Formats.{FormatParts}
use Rattle.fixed_numeral.specs.declared.error.ParseErrorKind.TheVariants.{Overflow}
use Rattle.fixed_c.specs.Arguments.{NamesFormat}
use Rattle.fixed_c.specs.Round.{IsNotRoundedTo, IsRoundedTo, rounded_bits}
use Rattle.fixed_c.specs.Numbers.{AreBits, AreBitsOf, format_of}
use Rattle.fixed_c.specs.Numbers.{IsBrought, IsNotBrought}
use Rattle.fixed_c.specs.Round.{RoundIsRefused}
use Rattle.fixed_c.specs.declared.number.FixedNumber.{FixedNumber}
use Rattle.fixed_c.specs.declared.refusal.Refusal.{Refusal}
use Rattle.fixed_c.specs.declared.refusal.Refusal.TheVariants.{Numeral}
use Rattle.fixed_c.proofs.EndLemmas.{carried}
use Rattle.fixed_c.proofs.rounding.round.Goals as goal

pub returns-in_err-number : goal.returns-in_err-number
returns-in_err-number c =
    let given : FitsSigned w64 c.args.bits = search rules in
    let bad : ¬ AreBits c.in_ok-format.format c.args.bits = rw (to_z-of_z w64 c.args.bits given) at c.in_err-number.ensures.number.0 in
    let p = err_from_is_err_and c.from_residual-in_err-number.result c.from_residual-in_err-number.ensures.1 in
    rw (p.1, p.2) (inr (c.in_ok-format.ensures.1, inr ((c.in_ok-policy.policy, c.in_ok-policy.ensures), inl (subst (λ (h : FormatParts). ¬ AreBits h c.args.bits) c.in_ok-format.ensures.0 bad, c.in_err-number.ensures.number.1))))

pub returns-in_err-rounding : goal.returns-in_err-rounding
returns-in_err-rounding c =
    let given : FitsSigned w64 c.args.bits = search rules in
    let are : AreBitsOf c.in_ok-format.format c.args.bits c.in_ok-number.number = rw (to_z-of_z w64 c.args.bits given) at c.in_ok-number.ensures.number in
    let p = err_from_is_err_and c.from_residual-in_err-rounding.result c.from_residual-in_err-rounding.ensures.1 in
    rw (p.1, p.2) (inr (c.in_ok-format.ensures.1, inr ((c.in_ok-policy.policy, c.in_ok-policy.ensures), inr ((c.in_ok-number.number, subst (λ (h : FormatParts). AreBitsOf h c.args.bits c.in_ok-number.number) c.in_ok-format.ensures.0 are), inl c.in_err-rounding.ensures))))

pub returns : goal.returns
returns c =
    let f : FormatParts = c.in_ok-format.format in
    let given : FitsSigned w64 c.args.bits = search rules in
    let number : FitsSigned w128 c.in_ok-number.number = search rules in
    let whole : FitsSigned w128 c.rounded.result = search rules in
    let are : AreBitsOf f c.args.bits c.in_ok-number.number = rw (to_z-of_z w64 c.args.bits given) at c.in_ok-number.ensures.number in
    let same : c.rounded.result ≡ rounded_bits c.in_ok-rounding.rounding c.in_ok-number.number f.frac = rw (to_z-of_z w128 c.in_ok-number.number number, c.frac.ensures.frac) at c.rounded.ensures in
    let ends = rw (to_z-of_z w128 c.rounded.result whole, same) at c.brought.ensures in
    carried c.brought.result
    (λ (n : FixedNumber). IsBrought f c.in_ok-policy.policy (rounded_bits c.in_ok-rounding.rounding c.in_ok-number.number f.frac) n.bits n.overflowed)
    (λ (n : FixedNumber). IsRoundedTo (format_of c.args.format.is_signed c.args.format.width c.args.format.frac) c.args.rounding c.args.policy c.args.bits n.bits n.overflowed)
    (λ (r : Refusal). (r ≡ Numeral Overflow) × IsNotBrought f c.in_ok-policy.policy (rounded_bits c.in_ok-rounding.rounding c.in_ok-number.number f.frac))
    (RoundIsRefused (format_of c.args.format.is_signed c.args.format.width c.args.format.frac) c.args.rounding c.args.policy c.args.bits)
    (λ n brought. subst (λ (h : FormatParts). IsRoundedTo h c.args.rounding c.args.policy c.args.bits n.bits n.overflowed) c.in_ok-format.ensures.0 (record {
      format = subst (λ (h : FormatParts). NamesFormat h) (sym c.in_ok-format.ensures.0) c.in_ok-format.ensures.1;
      number = c.in_ok-number.number;
      given_is = are;
      the_rounding = c.in_ok-rounding.rounding;
      rounding_is = c.in_ok-rounding.ensures;
      the_policy = c.in_ok-policy.policy;
      policy_is = c.in_ok-policy.ensures;
      brought = brought;
    }))
    (λ r out. inr (
      c.in_ok-format.ensures.1,
      inr (
        (c.in_ok-policy.policy, c.in_ok-policy.ensures),
        inr (
          (c.in_ok-number.number, subst (λ (h : FormatParts). AreBitsOf h c.args.bits c.in_ok-number.number) c.in_ok-format.ensures.0 are),
          inr (
            (c.in_ok-rounding.rounding, c.in_ok-rounding.ensures),
            (
              Overflow,
              out.0,
              (
                refl,
                subst (λ (h : FormatParts). IsNotRoundedTo h c.args.rounding c.args.policy c.args.bits) c.in_ok-format.ensures.0 (record {
                  number = c.in_ok-number.number;
                  given_is = are;
                  the_rounding = c.in_ok-rounding.rounding;
                  rounding_is = c.in_ok-rounding.ensures;
                  the_policy = c.in_ok-policy.policy;
                  policy_is = c.in_ok-policy.ensures;
                  out = out.1;
                }),
              ),
            ),
          ),
        ),
      ),
    ))
    ends
