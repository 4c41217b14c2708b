use Rattle.std.proofs.Common.{ℕ, IfErr, List, subst}
use Rattle.fixed.specs.Columns.{IsDelimiterWord}
use Rattle.fixed.proofs.commands.column_words.delimiter_of.Goals as goal

pub returns-clause-refused : goal.returns-clause-refused
returns-clause-refused c =
    subst (λ (w : List ℕ). IfErr c.delimiter_named.result (λ _. (a : ℕ) → ¬ IsDelimiterWord w a)) c.value_or.ensures
    c.delimiter_named.ensures.refused
