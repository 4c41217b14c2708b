use Rattle.std.proofs.Common.{ap, arith, length}
use Rattle.json_lines.proofs.AnswerLemmas.{fit_long, fit_refuses, fit_short, fit_stays}
use Rattle.json_lines.proofs.answer.fit.Goals as goal

pub returns-then-as_slice-gt-MAX_LINE-clause-made : goal.returns-then-as_slice-gt-MAX_LINE-clause-made
returns-then-as_slice-gt-MAX_LINE-clause-made c = λ whole held.
    fit_long whole c.args.answer.now c.refuse.new.answer c.args.refused held (omega (arith, c.if-as_slice-gt-MAX_LINE.true, ap length c.as_slice.ensures)) c.refuse.ensures

pub returns-then-as_slice-gt-MAX_LINE-clause-refused : goal.returns-then-as_slice-gt-MAX_LINE-clause-refused
returns-then-as_slice-gt-MAX_LINE-clause-refused c = λ whole held.
    fit_refuses whole c.args.answer.now c.args.refused held (omega (arith, c.if-as_slice-gt-MAX_LINE.true, ap length c.as_slice.ensures))

pub returns-clause-made : goal.returns-clause-made
returns-clause-made c = λ whole held.
    fit_short whole c.args.answer.now c.args.refused held (omega (arith, c.if-as_slice-gt-MAX_LINE.false, ap length c.as_slice.ensures))

pub returns-clause-refused : goal.returns-clause-refused
returns-clause-refused c = λ whole held.
    fit_stays whole c.args.answer.now c.args.refused held (omega (arith, c.if-as_slice-gt-MAX_LINE.false, ap length c.as_slice.ensures))
