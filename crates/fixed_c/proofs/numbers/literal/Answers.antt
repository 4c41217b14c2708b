use Rattle.std.proofs.Common.{rules, subst, sym, refl, inl, inr, FitsSigned}
use Rattle.std.specs.Int.{w128}
use Rattle.std.proofs.lemmas.Int.{to_z-of_z}
use Rattle.fixed_bits.specs.Formats.{FormatParts}
use Rattle.fixed_numeral.specs.declared.error.ParseErrorKind.{ParseErrorKind}
use Rattle.fixed_numeral.specs.declared.error.ParseErrorKind.TheVariants.{Overflow}
use Rattle.fixed_c.specs.Arguments.{NamesFormat}
use Rattle.fixed_c.specs.Literal.{IsLiteralNotRead, IsLiteralReadAs}
use Rattle.fixed_bits.specs.declared.mode.ReadMode.TheVariants.{NearestEven}
use Rattle.fixed_numeral.specs.Literal.{HasLiteral, HasLiteralCause, literal_radix}
use Rattle.fixed_c.specs.Numbers.{has_bits}
use Rattle.fixed_c.specs.Read.{OverflowsBy}
use Rattle.fixed_c.proofs.ReadLemmas.{not_read, read_as}
use Rattle.fixed_c.proofs.numbers.literal.Goals as goal

pub returns-in-Err : goal.returns-in-Err
returns-in-Err c =
    let f : FormatParts = c.in_ok-format.format in
    let cause : IsLiteralNotRead c.args.text.now f c.in_ok-policy.policy c.kind.result =
    inl (subst (λ (k : ParseErrorKind). HasLiteralCause f.signed c.args.text.now k) (sym c.kind.ensures) c.in-Err.ensures.cause) in
    inr (
      c.in_ok-format.ensures.1,
      inr (
        (c.in_ok-policy.policy, c.in_ok-policy.ensures),
        (
          c.kind.result,
          refl,
          (
            c.in_ok-policy.policy,
            c.in_ok-policy.ensures,
            subst (λ (h : FormatParts). IsLiteralNotRead c.args.text.now h c.in_ok-policy.policy c.kind.result) c.in_ok-format.ensures.0 cause,
          ),
        ),
      ),
    )

pub returns-in-Some : goal.returns-in-Some
returns-in-Some c =
    let f : FormatParts = c.in_ok-format.format in
    let image : FitsSigned w128 c.in-Some.number = search rules in
    let are : has_bits f.signed c.number_for_c.result.bits c.in-Some.number = rw (to_z-of_z w128 c.in-Some.number image) at c.number_for_c.ensures.bits in
    let some = c.in-Ok.ensures.literal.0 refl in
    let made : IsLiteralReadAs c.args.text.now f c.args.policy c.number_for_c.result.bits c.number_for_c.result.overflowed = record {
      the_policy = c.in_ok-policy.policy;
      policy_is = c.in_ok-policy.ensures;
      read = read_as (HasLiteral c.in_ok-format.format.signed c.args.text.now) f (literal_radix c.in_ok-format.format.signed c.args.text.now) c.in_ok-policy.policy NearestEven c.in-Ok.found some.0 some.1 c.in-Ok.ensures.reading c.in-Ok.ensures.format
          c.number_for_c.result.bits c.number_for_c.result.overflowed c.in-Some.number c.is_out_of_range_by.result (subst (λ (h : FormatParts). NamesFormat h) (sym c.in_ok-format.ensures.0) c.in_ok-format.ensures.1) c.in-Some.ensures.image c.is_out_of_range_by.ensures.range are c.number_for_c.ensures.flag;
    } in
    subst (λ (h : FormatParts). IsLiteralReadAs c.args.text.now h c.args.policy c.number_for_c.result.bits c.number_for_c.result.overflowed) c.in_ok-format.ensures.0 made

pub returns-in-None : goal.returns-in-None
returns-in-None c =
    let f : FormatParts = c.in_ok-format.format in
    let some = c.in-Ok.ensures.literal.0 refl in
    let over : OverflowsBy (HasLiteral c.in_ok-format.format.signed c.args.text.now) f (literal_radix c.in_ok-format.format.signed c.args.text.now) c.in_ok-policy.policy NearestEven =
    not_read (HasLiteral c.in_ok-format.format.signed c.args.text.now) f (literal_radix c.in_ok-format.format.signed c.args.text.now) c.in_ok-policy.policy NearestEven c.in-Ok.found some.0 some.1 c.in-Ok.ensures.reading c.in-Ok.ensures.format (λ v holds. (c.in-None.ensures.none v holds).0 refl) in
    let why : IsLiteralNotRead c.args.text.now f c.in_ok-policy.policy Overflow = inr (refl, over) in
    inr (
      c.in_ok-format.ensures.1,
      inr (
        (c.in_ok-policy.policy, c.in_ok-policy.ensures),
        (
          Overflow,
          refl,
          (
            c.in_ok-policy.policy,
            c.in_ok-policy.ensures,
            subst (λ (h : FormatParts). IsLiteralNotRead c.args.text.now h c.in_ok-policy.policy Overflow) c.in_ok-format.ensures.0 why,
          ),
        ),
      ),
    )
