use Rattle.std.proofs.Common.{◌≡◌, refl, subst, sym, if◌then◌else◌}
use Rattle.std.proofs.lemmas.Str.Ascii.{trim_ascii_is}
use Rattle.fixed_command.specs.Layout.{after_blanks, trimmed}
use Rattle.fixed_command.proofs.field.bare.Goals as goal

pub returns-then-form-clause-value : goal.returns-then-form-clause-value
returns-then-form-clause-value c =
    let field = c.args.field.now in
    let found = c.trim_ascii.result.now in
    subst (λ b. found ≡ (if b then trimmed field else field)) (sym c.if-form.true)
    (trim_ascii_is field found (after_blanks field) refl c.trim_ascii.ensures.value)
