use Rattle.fixed.proofs.commands.column_words.table_of.Goals as goal

pub returns-in-Err-delimiter_of-clause-refused : goal.returns-in-Err-delimiter_of-clause-refused
returns-in-Err-delimiter_of-clause-refused c table asked = c.in-Err-delimiter_of.ensures.refused table.delimiter asked.delimiter
