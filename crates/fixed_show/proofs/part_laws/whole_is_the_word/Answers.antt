use Rattle.fixed_show.proofs.PartLemmas.{field_is_word, whole_is_word}
use Rattle.fixed_show.proofs.part_laws.whole_is_the_word.Goals as goal

pub returns-clause-whole : goal.returns-clause-whole
returns-clause-whole c = whole_is_word

pub returns-clause-field : goal.returns-clause-field
returns-clause-field c = field_is_word
