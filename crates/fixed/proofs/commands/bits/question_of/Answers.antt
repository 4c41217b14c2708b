use Rattle.std.proofs.Common.{false, subst, sym}
use Rattle.fixed.specs.Questions.{IsBitsBy}
use Rattle.fixed.proofs.commands.bits.question_of.Goals as goal

pub returns-in-Err-format_question-clause-refused : goal.returns-in-Err-format_question-clause-refused
returns-in-Err-format_question-clause-refused c = λ q place asked.
    let by : IsBitsBy false c.args.given.now q place = subst (λ b. IsBitsBy b c.args.given.now q place) (sym c.if-has_fields.ensures) asked in
    c.in-Err-format_question.ensures.refused q by.0
