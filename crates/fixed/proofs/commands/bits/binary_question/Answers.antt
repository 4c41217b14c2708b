use Rattle.fixed.proofs.QuestionLemmas.{part_refused}
use Rattle.fixed.proofs.commands.bits.binary_question.Goals as goal

pub returns-in-Err-part_of-clause-refused : goal.returns-in-Err-part_of-clause-refused
returns-in-Err-part_of-clause-refused c q asked =
    part_refused c.args.given.now c.in-Ok.format q c.in-Ok.ensures.value c.in-Err-part_of.ensures.refused asked
