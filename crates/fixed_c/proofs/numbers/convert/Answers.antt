use Rattle.std.proofs.Common.{rules, subst, sym, refl, inl, inr, FitsSigned, ◌↔◌, IsTrue, ℕ}
use Rattle.std.specs.Int.{w128, w64}
use Rattle.std.proofs.lemmas.Int.{to_z-of_z}
use Rattle.std.proofs.lemmas.Result.{err_from_is_err_and}
use Rattle.fixed_bits.specs.Down.{down}
use Rattle.fixed_bits.specs.Formats.{FormatParts}
use Rattle.fixed_bits.specs.Images.{IsImage, IsOutOfRangeBy}
use Rattle.fixed_bits.specs.Ranges.{IsOutOfRange}
use Rattle.fixed_numeral.specs.declared.error.ParseErrorKind.TheVariants.{Overflow}
use Rattle.fixed_c.specs.Arguments.{NamesFormat}
use Rattle.fixed_c.specs.Convert.{IsConverted, IsNotConverted}
use Rattle.fixed_c.specs.Numbers.{AreBits, AreBitsOf, format_of, has_bits}
use Rattle.fixed_c.proofs.numbers.convert.Goals as goal

pub returns-in_err-policy : goal.returns-in_err-policy
returns-in_err-policy c =
    let p = err_from_is_err_and c.from_residual-in_err-policy.result c.from_residual-in_err-policy.ensures.1 in
    rw (p.1, p.2) (inr (c.in_ok-source.ensures.1, inr (c.in_ok-target.ensures.1, inl c.in_err-policy.ensures)))

pub returns-in_err-number : goal.returns-in_err-number
returns-in_err-number c =
    let given : FitsSigned w64 c.args.bits = search rules in
    let bad : ¬ AreBits c.in_ok-source.source c.args.bits = rw (to_z-of_z w64 c.args.bits given) at c.in_err-number.ensures.number.0 in
    let p = err_from_is_err_and c.from_residual-in_err-number.result c.from_residual-in_err-number.ensures.1 in
    rw (p.1, p.2) (inr (c.in_ok-source.ensures.1, inr (c.in_ok-target.ensures.1, inr ((c.in_ok-policy.policy, c.in_ok-policy.ensures), inl (subst (λ (h : FormatParts). ¬ AreBits h c.args.bits) c.in_ok-source.ensures.0 bad, c.in_err-number.ensures.number.1)))))

pub returns-in-Some : goal.returns-in-Some
returns-in-Some c =
    let f : FormatParts = c.in_ok-source.source in
    let g : FormatParts = c.in_ok-target.target in
    let given : FitsSigned w64 c.args.bits = search rules in
    let number : FitsSigned w128 c.in_ok-number.number = search rules in
    let moved : FitsSigned w128 c.in-Some.image = search rules in
    let are : AreBitsOf f c.args.bits c.in_ok-number.number = rw (to_z-of_z w64 c.args.bits given) at c.in_ok-number.ensures.number in
    let bits_are : has_bits g.signed c.number_for_c.result.bits c.in-Some.image = rw (to_z-of_z w128 c.in-Some.image moved) at c.number_for_c.ensures.bits in
    let image : IsImage c.in_ok-policy.policy g.signed g.width (down c.in_ok-number.number f.frac g.frac) c.in-Some.image =
    subst (λ (k : ℕ). IsImage c.in_ok-policy.policy g.signed g.width (down c.in_ok-number.number k g.frac) c.in-Some.image) c.frac.ensures.frac (rw (to_z-of_z w128 c.in_ok-number.number number) at c.in-Some.ensures.image) in
    let over : IsTrue c.in-Some.overflowed ↔ IsOutOfRangeBy c.in_ok-policy.policy g.signed g.width (down c.in_ok-number.number f.frac g.frac) =
    subst (λ (k : ℕ). IsTrue c.in-Some.overflowed ↔ IsOutOfRangeBy c.in_ok-policy.policy g.signed g.width (down c.in_ok-number.number k g.frac)) c.frac.ensures.frac (rw (to_z-of_z w128 c.in_ok-number.number number) at c.in-Some.ensures.verdict) in
    let made : IsConverted f g c.args.policy c.args.bits c.number_for_c.result.bits c.number_for_c.result.overflowed = record {
      source_format = (subst (λ (h : FormatParts). NamesFormat h) (sym c.in_ok-source.ensures.0) c.in_ok-source.ensures.1);
      target_format = (subst (λ (h : FormatParts). NamesFormat h) (sym c.in_ok-target.ensures.0) c.in_ok-target.ensures.1);
      number = c.in_ok-number.number;
      given_is = are;
      the_policy = c.in_ok-policy.policy;
      policy_is = c.in_ok-policy.ensures;
      brought = record { image = c.in-Some.image; image_is = image; bits_are = bits_are; overflowed = c.in-Some.overflowed; flag_is = c.number_for_c.ensures.flag; overflowed_is = over };
    } in
    subst (λ (h : FormatParts). IsConverted h (format_of c.args.target.is_signed c.args.target.width c.args.target.frac) c.args.policy c.args.bits c.number_for_c.result.bits c.number_for_c.result.overflowed) c.in_ok-source.ensures.0
    (subst (λ (h : FormatParts). IsConverted f h c.args.policy c.args.bits c.number_for_c.result.bits c.number_for_c.result.overflowed) c.in_ok-target.ensures.0 made)

pub returns-in-None : goal.returns-in-None
returns-in-None c =
    let f : FormatParts = c.in_ok-source.source in
    let g : FormatParts = c.in_ok-target.target in
    let given : FitsSigned w64 c.args.bits = search rules in
    let number : FitsSigned w128 c.in_ok-number.number = search rules in
    let are : AreBitsOf f c.args.bits c.in_ok-number.number = rw (to_z-of_z w64 c.args.bits given) at c.in_ok-number.ensures.number in
    let why = c.in-None.ensures.none.0 refl in
    let out : IsOutOfRange g.signed g.width (down c.in_ok-number.number f.frac g.frac) = rw (to_z-of_z w128 c.in_ok-number.number number, c.frac.ensures.frac) at why.1 in
    let made : IsNotConverted f g c.args.policy c.args.bits = record {
      number = c.in_ok-number.number;
      given_is = are;
      the_policy = c.in_ok-policy.policy;
      policy_is = c.in_ok-policy.ensures;
      out = record { checked = why.0; out = out };
    } in
    inr (
      c.in_ok-source.ensures.1,
      inr (
        c.in_ok-target.ensures.1,
        inr (
          (c.in_ok-policy.policy, c.in_ok-policy.ensures),
          inr (
            (c.in_ok-number.number, subst (λ (h : FormatParts). AreBitsOf h c.args.bits c.in_ok-number.number) c.in_ok-source.ensures.0 are),
            (
              Overflow,
              refl,
              (
                refl,
                subst (λ (h : FormatParts). IsNotConverted h (format_of c.args.target.is_signed c.args.target.width c.args.target.frac) c.args.policy c.args.bits) c.in_ok-source.ensures.0
                    (subst (λ (h : FormatParts). IsNotConverted f h c.args.policy c.args.bits) c.in_ok-target.ensures.0 made),
              ),
            ),
          ),
        ),
      ),
    )
