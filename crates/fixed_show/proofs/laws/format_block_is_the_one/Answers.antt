use Rattle.fixed_show.proofs.FormatLawLemmas.{format_block_one, format_object_one}
use Rattle.fixed_show.proofs.laws.format_block_is_the_one.Goals as goal

pub returns : goal.returns
returns c = record { block = format_block_one; object = format_object_one }
