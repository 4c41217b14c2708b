use Rattle.fixed_constants.proofs.laws.written_reads_back.Goals as goal

pub returns : goal.returns
returns c text constants are = c.canonical_text_reads_back.ensures constants (c.constants_are_entries.ensures text constants are)
