use Rattle.fixed.proofs.UnpackLemmas.{words_refused}
use Rattle.fixed.proofs.commands.unpack.binary_written.Goals as goal

pub returns-in-Err-words_of-clause-refused : goal.returns-in-Err-words_of-clause-refused
returns-in-Err-words_of-clause-refused c written files asked =
    words_refused c.args.given.now c.in-Ok.found.0 c.in-Ok.found.1 written files c.in-Ok.ensures.value c.in-Err-words_of.ensures.refused asked
