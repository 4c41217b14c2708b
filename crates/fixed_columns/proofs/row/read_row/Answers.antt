use Rattle.std.proofs.Common.{ℕ, List, subst}
use Rattle.fixed_respell.specs.LineWords.{space}
use Rattle.fixed_respell.specs.Split.{IsSplit}
use Rattle.fixed_columns.proofs.row.read_row.Goals as goal

pub returns-in-Err-clause-refused : goal.returns-in-Err-clause-refused
returns-in-Err-clause-refused c =
    let F : List ℕ → Type 0 = λ l. IsSplit space l c.in-Some.numeral.now c.in-Some.word.now in
    record {
      numeral = c.in-Some.numeral.now;
      word = c.in-Some.word.now;
      fields = subst F c.without_leading_spaces.ensures c.in-Some.ensures;
      format = c.in-Some-format_word.format;
      named = c.in-Some-format_word.ensures;
      refused = c.in-Err.ensures.refused;
    }
