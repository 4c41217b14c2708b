use Rattle.fixed_constants.proofs.ProgramLemmas.{no_language}
use Rattle.fixed_constants.proofs.program.form_of.Goals as goal

pub returns-in-None : goal.returns-in-None
returns-in-None c = no_language c.args.words.now c.word-item.result c.as_bytes.result.now c.in-len1.len_at_least c.in-len1.len_below c.word-item.is c.as_bytes.ensures.value c.in-None.ensures
