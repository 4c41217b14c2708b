use Rattle.fixed_constants.proofs.EntryLemmas.{canonical_declares}
use Rattle.fixed_constants.proofs.laws.canonical_text_reads_back.Goals as goal

pub returns : goal.returns
returns c constants are = canonical_declares c.line_comes_first.ensures c.literal_reads_back.ensures constants are
