use Rattle.std.proofs.Common.{◌∙◌, subst, sym, refl, true≢false}
use Rattle.fixed_numeral.specs.Numeral.{IsNumeral}
use Rattle.fixed.proofs.ErrorLemmas.{error_plain, plain_error}
use Rattle.fixed.proofs.commands.fit.error_numeral.Goals as goal

pub returns-in_ok-prefixed-in-Ok : goal.returns-in_ok-prefixed-in-Ok
returns-in_ok-prefixed-in-Ok g c =
    plain_error c.args.radix c.args.word.now c.in_ok-prefixed-in-Ok.field-0.items c.in_default.ensures.cases (
      (λ e. c.if-first_byte-eq45.false (c.first_byte.ensures ∙ e)),
      subst (IsNumeral c.args.radix) c.as_bytes.ensures.value (c.in-Ok.ensures.reading.numeral.0 refl),
      c.in_ok-prefixed-in-Ok.ensures,
    )

pub returns-in-Err : goal.returns-in-Err
returns-in-Err g c = λ text x.
    let plain = error_plain c.args.radix c.args.word.now text c.in_default.ensures.cases x in
    true≢false (sym (c.in-Err.ensures.reading.numeral.1 (subst (IsNumeral c.args.radix) (sym c.as_bytes.ensures.value) plain.1)))
