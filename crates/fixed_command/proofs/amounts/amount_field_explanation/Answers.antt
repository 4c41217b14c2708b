use Rattle.std.proofs.Common.{◌≡◌, ◌∙◌, ℕ, List, ap, subst, sym}
use Rattle.fixed_amounts.specs.Explained.{ExplainsOverflow}
use Rattle.fixed_command.specs.Convert.{without_return}
use Rattle.fixed_command.specs.Explained.{looked_at}
use Rattle.fixed_numeral.specs.Numeral.{IsNumeral}
use Rattle.fixed_numeral.specs.declared.radix.Radix.TheVariants.{Dec}
use Rattle.fixed_command.proofs.amounts.amount_field_explanation.Goals as goal

pub returns-clause-overflow : goal.returns-clause-overflow
returns-clause-overflow g c same numeral =
    let text : List ℕ = looked_at c.args.form.now c.args.field.now in
    let bytes : c.as_bytes.result.now ≡ text = c.as_bytes.ensures.value ∙ c.numeral_of-numeral.ensures in
    let line : c.without_return.result.now ≡ without_return text = c.without_return.ensures.line ∙ ap without_return bytes in
    subst (λ b. ExplainsOverflow c.args.settings.now.mode c.args.settings.now.format b c.overflow_explanation.result) line
    (c.overflow_explanation.ensures.overflow (subst (IsNumeral Dec) (sym line) numeral))
