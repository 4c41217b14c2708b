use Rattle.std.proofs.Common.{Some, refl, subst, sym, true}
use Rattle.fixed_words.specs.Told.{IsNoError}
use Rattle.fixed_words.proofs.convert.errors_of.Goals as goal

pub returns-then-has_report : goal.returns-then-has_report
returns-then-has_report c =
    let r = c.error_report.result in
    let e = c.error_report.ensures in
    subst (λ b. IsNoError b c.args.rule.now.rule (Some r)) (sym c.if-has_report.true)
    (subst (λ s. IsNoError true s (Some r)) c.settings.ensures (r, refl, e.radix, e.format, e.mode, e.none, e.no_sums))
