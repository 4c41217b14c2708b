use Rattle.std.proofs.Common.{ℕ, IfErr, List, subst}
use Rattle.fixed.specs.Columns.{IsDecimalWord}
use Rattle.fixed.proofs.commands.column_words.decimal_of.Goals as goal

pub returns-clause-refused : goal.returns-clause-refused
returns-clause-refused c =
    subst (λ (w : List ℕ). IfErr c.decimal_named.result (λ _. (a : ℕ) → ¬ IsDecimalWord w a)) c.value_or.ensures
    c.decimal_named.ensures.refused
