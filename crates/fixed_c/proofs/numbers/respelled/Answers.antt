use Rattle.std.proofs.Common.{rules, subst, sym, refl, inl, inr, FitsSigned, Bool}
use Rattle.std.specs.Int.{w64}
use Rattle.std.proofs.lemmas.Int.{to_z-of_z}
use Rattle.std.proofs.lemmas.Result.{err_from_is_err_and}
use Rattle.fixed_bits.specs.Formats.{FormatParts}
use Rattle.fixed_numeral.specs.declared.error.ParseErrorKind.{ParseErrorKind}
use Rattle.fixed_respell.specs.Reached.{number_of}
use Rattle.fixed_c.specs.Arguments.{Names, NamesFormat}
use Rattle.fixed_c.specs.Numbers.{format_of, has_bits}
use Rattle.fixed_c.specs.Respell.{IsNotReached, IsReachedAs}
use Rattle.fixed_c.proofs.numbers.respelled.Goals as goal

pub returns-in_err-policy : goal.returns-in_err-policy
returns-in_err-policy c =
    let p = err_from_is_err_and c.from_residual-in_err-policy.result c.from_residual-in_err-policy.ensures.1 in
    rw (p.1, p.2) (inr ((c.in_ok-radix.radix, c.in_ok-radix.ensures), inr (c.in_ok-source.ensures.1, inr (c.in_ok-target.ensures.1, inl c.in_err-policy.ensures))))

pub returns-in_err-mode : goal.returns-in_err-mode
returns-in_err-mode c =
    let p = err_from_is_err_and c.from_residual-in_err-mode.result c.from_residual-in_err-mode.ensures.1 in
    rw (p.1, p.2) (inr ((c.in_ok-radix.radix, c.in_ok-radix.ensures), inr (c.in_ok-source.ensures.1, inr (c.in_ok-target.ensures.1, inr ((c.in_ok-policy.policy, c.in_ok-policy.ensures), inl c.in_err-mode.ensures)))))

pub returns-in-Ok : goal.returns-in-Ok
returns-in-Ok c =
    let f : FormatParts = c.in_ok-source.source in
    let h : FormatParts = c.in_ok-target.target in
    let bits : FitsSigned w64 c.given_bits.result = search rules in
    let are : has_bits h.signed c.given_bits.result (number_of c.in-Ok.reached.bits) =
    subst (λ (s : Bool). has_bits s c.given_bits.result (number_of c.in-Ok.reached.bits)) c.in-Ok.ensures.sign c.given_bits.ensures in
    let made : Names c.args.radix c.args.policy c.args.mode (IsReachedAs c.args.text.now f h c.given_bits.result c.flag.result) = record {
      the_radix = c.in_ok-radix.radix;
      the_policy = c.in_ok-policy.policy;
      the_mode = c.in_ok-mode.mode;
      radix_is = c.in_ok-radix.ensures;
      policy_is = c.in_ok-policy.ensures;
      mode_is = c.in_ok-mode.ensures;
      holds = record {
        source_format = (subst (λ (h : FormatParts). NamesFormat h) (sym c.in_ok-source.ensures.0) c.in_ok-source.ensures.1);
        target_format = (subst (λ (h : FormatParts). NamesFormat h) (sym c.in_ok-target.ensures.0) c.in_ok-target.ensures.1);
        number = number_of c.in-Ok.reached.bits;
        overflowed = c.in-Ok.reached.overflowed;
        reached = c.in-Ok.ensures.reached;
        bits_are = are;
        flag_is = c.flag.ensures;
      };
    } in
    rw (to_z-of_z w64 c.given_bits.result bits)
    (subst (λ (s : FormatParts). Names c.args.radix c.args.policy c.args.mode (IsReachedAs c.args.text.now s (format_of c.args.target.is_signed c.args.target.width c.args.target.frac) c.given_bits.result c.flag.result)) c.in_ok-source.ensures.0
    (subst (λ (t : FormatParts). Names c.args.radix c.args.policy c.args.mode (IsReachedAs c.args.text.now f t c.given_bits.result c.flag.result)) c.in_ok-target.ensures.0 made))

pub returns-in-Err : goal.returns-in-Err
returns-in-Err c =
    let f : FormatParts = c.in_ok-source.source in
    let h : FormatParts = c.in_ok-target.target in
    let refused : IsNotReached c.args.text.now f h c.kind.result c.in_ok-radix.radix c.in_ok-policy.policy c.in_ok-mode.mode =
    subst (λ (k : ParseErrorKind). IsNotReached c.args.text.now f h k c.in_ok-radix.radix c.in_ok-policy.policy c.in_ok-mode.mode) (sym c.kind.ensures) c.in-Err.ensures.refused in
    let made : Names c.args.radix c.args.policy c.args.mode (IsNotReached c.args.text.now f h c.kind.result) = record {
      the_radix = c.in_ok-radix.radix;
      the_policy = c.in_ok-policy.policy;
      the_mode = c.in_ok-mode.mode;
      radix_is = c.in_ok-radix.ensures;
      policy_is = c.in_ok-policy.ensures;
      mode_is = c.in_ok-mode.ensures;
      holds = refused;
    } in
    inr (
      (c.in_ok-radix.radix, c.in_ok-radix.ensures),
      inr (
        c.in_ok-source.ensures.1,
        inr (
          c.in_ok-target.ensures.1,
          inr (
            (c.in_ok-policy.policy, c.in_ok-policy.ensures),
            inr (
              (c.in_ok-mode.mode, c.in_ok-mode.ensures),
              (
                c.kind.result,
                refl,
                subst (λ (s : FormatParts). Names c.args.radix c.args.policy c.args.mode (IsNotReached c.args.text.now s (format_of c.args.target.is_signed c.args.target.width c.args.target.frac) c.kind.result)) c.in_ok-source.ensures.0
                    (subst (λ (t : FormatParts). Names c.args.radix c.args.policy c.args.mode (IsNotReached c.args.text.now f t c.kind.result)) c.in_ok-target.ensures.0 made),
              ),
            ),
          ),
        ),
      ),
    )
