use Rattle.fixed_command.proofs.WordLemmas.{printed_words}
use Rattle.fixed_command.proofs.laws.printed_bits_are_words.Goals as goal

pub returns : goal.returns
returns c = printed_words
