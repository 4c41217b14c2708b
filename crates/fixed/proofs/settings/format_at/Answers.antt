use Rattle.std.proofs.Common.{ℕ, IfErr, List, sym, subst}
use Rattle.std.specs.Prelude.{Option}
use Rattle.fixed.specs.Lines.{IsFormatAsked}
use Rattle.fixed_bits.specs.Formats.{FormatParts}
use Rattle.fixed.proofs.settings.format_at.Goals as goal

pub returns-in-Ok-clause-refused : goal.returns-in-Ok-clause-refused
returns-in-Ok-clause-refused c =
    subst (λ (o : Option (List ℕ)). IfErr c.format_of.result (λ _. (f : FormatParts) → ¬ IsFormatAsked o f))
    (sym c.in-Ok.ensures.value) c.format_of.ensures.refused
