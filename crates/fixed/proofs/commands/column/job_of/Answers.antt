use Rattle.std.proofs.Common.{inl, inr}
use Rattle.command_line.specs.Words.{word_at}
use Rattle.fixed.specs.Columns.{AreAmountColumnsAsked, AreBinaryColumnsAsked}
use Rattle.fixed.proofs.SourceLemmas.{amount_refused, binary_refused, columns_refused}
use Rattle.fixed.proofs.commands.column.job_of.Goals as goal

pub returns-in-Err-clause-refused : goal.returns-in-Err-clause-refused
returns-in-Err-clause-refused c =
    elim c.in-Err.ensures.refused [ inl memory ↦ inl memory | inr none ↦ inr (λ job source files asked. none asked.columns source asked.are_columns) ]

pub returns-in-Err-amounts_of-clause-refused : goal.returns-in-Err-amounts_of-clause-refused
returns-in-Err-amounts_of-clause-refused c = inr (λ job other files asked.
    let given = c.args.given.now in
    let source = c.in-Ok.found.1 in
    columns_refused given c.in-Ok.found.0.items source other files job c.in-Ok.ensures.value (λ list by.
    amount_refused (word_at given source) (λ format. AreAmountColumnsAsked given format list source job files) (AreBinaryColumnsAsked given list source job files)
    c.in-Some.format c.in-Some.ensures (c.in-Err-amounts_of.ensures.refused list job files) by) asked)

pub returns-in-Err-binary_of-clause-refused : goal.returns-in-Err-binary_of-clause-refused
returns-in-Err-binary_of-clause-refused c = inr (λ job other files asked.
    let given = c.args.given.now in
    let source = c.in-Ok.found.1 in
    columns_refused given c.in-Ok.found.0.items source other files job c.in-Ok.ensures.value (λ list by.
    binary_refused (word_at given source) (λ format. AreAmountColumnsAsked given format list source job files) (AreBinaryColumnsAsked given list source job files)
    c.in-None.ensures (c.in-Err-binary_of.ensures.refused list job files) by) asked)
