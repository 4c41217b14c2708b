use Rattle.std.proofs.Common.{rules, subst, sym, refl, inl, inr, FitsSigned, ℕ, List, drop}
use Rattle.std.specs.Int.{w128}
use Rattle.std.proofs.lemmas.Int.{to_z-of_z}
use Rattle.fixed_bits.specs.Formats.{FormatParts}
use Rattle.fixed_numeral.specs.Cause.{HasCause}
use Rattle.fixed_numeral.specs.Numeral.{HasNumeral}
use Rattle.fixed_numeral.specs.declared.error.ParseErrorKind.{ParseErrorKind}
use Rattle.fixed_numeral.specs.declared.error.ParseErrorKind.TheVariants.{Overflow}
use Rattle.fixed_c.specs.Arguments.{NamesFormat}
use Rattle.fixed_c.specs.Numbers.{has_bits}
use Rattle.fixed_c.proofs.ReadLemmas.{not_read, read_as}
use Rattle.fixed_c.proofs.asked.read_from.Goals as goal

pub returns-in-Err : goal.returns-in-Err
returns-in-Err c =
    let cause : HasCause c.args.asked.now.radix (drop c.args.from c.args.text.now) c.kind.result =
    subst (λ (k : ParseErrorKind). HasCause c.args.asked.now.radix (drop c.args.from c.args.text.now) k) (sym c.kind.ensures) c.in-Err.ensures.reading.cause in
    (c.kind.result, refl, inl cause)

pub returns-in-Some : goal.returns-in-Some
returns-in-Some c =
    let f : FormatParts = c.args.asked.now.format in
    let text : List ℕ = drop c.args.from c.args.text.now in
    let image : FitsSigned w128 c.in-Some.number = search rules in
    let are : has_bits f.signed c.number_for_c.result.bits c.in-Some.number = rw (to_z-of_z w128 c.in-Some.number image) at c.number_for_c.ensures.bits in
    let numeral = c.in-Ok.ensures.reading.numeral.0 refl in
    let named : NamesFormat f = subst (λ (g : FormatParts). NamesFormat g) c.in-Ok.ensures.format c.is_out_of_range_by.ensures.valid in
    read_as (HasNumeral c.args.asked.now.radix text) f c.args.asked.now.radix c.args.asked.now.policy c.args.asked.now.mode c.in-Ok.found numeral.0 numeral.1 c.in-Ok.ensures.reading.read c.in-Ok.ensures.format
    c.number_for_c.result.bits c.number_for_c.result.overflowed c.in-Some.number c.is_out_of_range_by.result named c.in-Some.ensures.image c.is_out_of_range_by.ensures.range are c.number_for_c.ensures.flag

pub returns-in-None : goal.returns-in-None
returns-in-None c =
    let text : List ℕ = drop c.args.from c.args.text.now in
    let numeral = c.in-Ok.ensures.reading.numeral.0 refl in (
      Overflow,
      refl,
      inr (
        refl,
        not_read (HasNumeral c.args.asked.now.radix text) c.args.asked.now.format c.args.asked.now.radix c.args.asked.now.policy c.args.asked.now.mode c.in-Ok.found numeral.0 numeral.1 c.in-Ok.ensures.reading.read c.in-Ok.ensures.format
            (λ v holds. (c.in-None.ensures.none v holds).0 refl),
      ),
    )
