use Rattle.fixed.specs.Amounts.{AreUnitsAsked}
use Rattle.fixed.specs.Questions.{IsBinaryWordAsked}
use Rattle.fixed.proofs.QuestionLemmas.{amount_refused, binary_refused}
use Rattle.fixed.proofs.commands.bits.format_question.Goals as goal

pub returns-in-Err-clause-refused : goal.returns-in-Err-clause-refused
returns-in-Err-clause-refused c q asked =
    amount_refused c.args.given.now (AreUnitsAsked c.args.given.now) (IsBinaryWordAsked c.args.given.now) q c.in-Some.format c.in-Some.ensures c.in-Err.ensures.refused asked

pub returns-in-Err-binary_question-clause-refused : goal.returns-in-Err-binary_question-clause-refused
returns-in-Err-binary_question-clause-refused c q asked =
    binary_refused c.args.given.now (AreUnitsAsked c.args.given.now) (IsBinaryWordAsked c.args.given.now) q c.in-None.ensures (c.in-Err-binary_question.ensures.refused q) asked
