use Rattle.std.proofs.Common.{arith}
use Rattle.fixed_command.proofs.LineBlockLemmas.{answered_replies, long_replies, refused_replies}
use Rattle.fixed_command.proofs.line_blocks.BlockRuleRule.answer.Goals as goal

pub returns-then-line-gt-MAX_LINE-clause-answer : goal.returns-then-line-gt-MAX_LINE-clause-answer
returns-then-line-gt-MAX_LINE-clause-answer g c =
    long_replies c.args.self.now.form c.args.self.now.question c.args.line.now c.args.out.now c.too_long.result (omega (arith, c.if-line-gt-MAX_LINE.true)) c.too_long.ensures.text

pub returns-in-None-clause-answer : goal.returns-in-None-clause-answer
returns-in-None-clause-answer g c =
    answered_replies c.args.self.now.form c.args.self.now.question c.args.line.now c.args.out.now c.push_answer.new.out (omega (arith, c.if-line-gt-MAX_LINE.false)) c.check_format.ensures
    (rw c.without_return.ensures.line at c.in-None.ensures.answer)

pub returns-in-Some-clause-answer : goal.returns-in-Some-clause-answer
returns-in-Some-clause-answer g c =
    rw (c.truncate.ensures, c.len-start.ensures.value) (refused_replies c.args.self.now.form c.args.self.now.question c.args.line.now c.args.out.now c.push_answer.new.out (record { text = c.in-Some.text }) (omega (arith, c.if-line-gt-MAX_LINE.false)) c.check_format.ensures
    (rw c.without_return.ensures.line at c.in-Some.ensures.answer) (rw c.without_return.ensures.line at c.in-Some.ensures.refused))
