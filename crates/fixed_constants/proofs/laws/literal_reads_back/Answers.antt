use Rattle.fixed_constants.proofs.LiteralLemmas.{literal_is_read}
use Rattle.fixed_constants.proofs.laws.literal_reads_back.Goals as goal

pub returns : goal.returns
returns c = literal_is_read c.exact_text_reads_back.ensures
