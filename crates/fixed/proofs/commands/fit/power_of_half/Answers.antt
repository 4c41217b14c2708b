use Rattle.std.proofs.Common.{◌∙◌, ◌++◌, [], ◌∷◌, List, ℕ, ap, subst, sym}
use Rattle.fixed.specs.Inner.Fractions.{IsFraction}
use Rattle.fixed.proofs.FractionLemmas.{first_power}
use Rattle.fixed.proofs.commands.fit.power_of_half.Goals as goal

pub halves-init : goal.halves-init
halves-init c =
    subst (λ (l : List ℕ). IsFraction 1 5 l)
    (sym (c.in_ok-push-2.ensures.items ∙ ap (λ (l : List ℕ). l ++ 53 ∷ []) c.new-digits.ensures.items)) first_power
