use Rattle.std.proofs.Common.{rules, refl, sym, subst, inl, inr, FitsSigned}
use Rattle.std.specs.Int.{w64}
use Rattle.std.proofs.lemmas.Int.{to_z-of_z}
use Rattle.fixed_numeral.specs.Cause.{HasCause}
use Rattle.fixed_numeral.specs.declared.error.ParseErrorKind.{ParseErrorKind}
use Rattle.fixed_numeral.specs.declared.error.ParseErrorKind.TheVariants.{Overflow}
use Rattle.fixed_numeral.specs.declared.radix.Radix.TheVariants.{Dec}
use Rattle.fixed_c.proofs.MoneyLemmas.{decimal_out, decimal_read}
use Rattle.fixed_c.proofs.decimals.read_decimal.Goals as goal

pub returns-in-Err : goal.returns-in-Err
returns-in-Err c =
    let cause : HasCause Dec c.args.text.now c.kind.result = subst (λ (k : ParseErrorKind). HasCause Dec c.args.text.now k) (sym c.kind.ensures) c.in-Err.ensures.reading.cause in
    (c.kind.result, refl, inl cause)

pub returns-in-Some : goal.returns-in-Some
returns-in-Some c =
    let fits : FitsSigned w64 c.in-Some.bits = search rules in
    let numeral = c.in-Ok.ensures.reading.numeral.0 refl in
    decimal_read c.args.text.now c.args.asked.now.format c.args.asked.now.policy c.args.asked.now.mode c.in-Ok.found numeral.0 numeral.1 (c.in-Ok.ensures.reading.read numeral.0 numeral.1) c.in-Ok.ensures.format _ c.in-Some.bits c.is_out_of_range_by.result c.requires c.in-Some.ensures.image c.is_out_of_range_by.ensures (sym (to_z-of_z w64 c.in-Some.bits fits)) c.flag.ensures

pub returns-in-None : goal.returns-in-None
returns-in-None c =
    let numeral = c.in-Ok.ensures.reading.numeral.0 refl in
    (Overflow, refl, inr (refl, decimal_out c.args.text.now c.args.asked.now.format c.args.asked.now.policy c.args.asked.now.mode c.in-Ok.found numeral.0 numeral.1 (c.in-Ok.ensures.reading.read numeral.0 numeral.1) c.in-Ok.ensures.format (λ v holds. (c.in-None.ensures.none v holds).0 refl)))
