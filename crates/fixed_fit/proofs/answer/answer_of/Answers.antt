use Rattle.std.proofs.Common.{Err, arith, inl, inr, refl}
use Rattle.std.proofs.lemmas.Grind.{common_steps}
use Rattle.line_engine.specs.Lines.{lines}
use Rattle.fixed_fit.specs.Unfit.{said}
use Rattle.fixed_fit.proofs.AnswerLemmas.{fault_is_answer, plain_answer, plain_known, signed_answer, signed_known}
use Rattle.fixed_fit.proofs.answer.answer_of.Goals as goal

pub lengths_answer-requires : goal.lengths_answer-requires
lengths_answer-requires g c = record { known = signed_known c.args.question.now c.requires.0 c.args.reader.now c.requires.1 c.in-None.is }

pub lengths_answer-requires-else-has_sign : goal.lengths_answer-requires-else-has_sign
lengths_answer-requires-else-has_sign g c = record { known = plain_known c.args.question.now c.requires.0 c.args.reader.now c.requires.1 c.in-None.is }

pub returns-in-Some : goal.returns-in-Some
returns-in-Some g c = λ input h. inl (fault_is_answer c.args.question.now input c.args.reader.now.progress c.in-Some.fault (said (Err c.no_numeral.result)) h.progress h.radix c.in-Some.is (grind (arith, common_steps, c.no_numeral.ensures, c.in-Some.is)) refl)

pub returns-then-has_sign : goal.returns-then-has_sign
returns-then-has_sign g c = λ input h. inr (signed_answer c.args.question.now (lines input) c.args.reader.now.progress (said c.lengths_answer.result) h.progress h.radix h.fractions c.in-None.is (grind (arith, common_steps, c.signed.ensures, c.if-has_sign.true)) (c.lengths_answer.ensures _ (lines input) (h.errors c.in-None.is)))

pub returns-else-has_sign : goal.returns-else-has_sign
returns-else-has_sign g c = λ input h. inr (plain_answer c.args.question.now (lines input) c.args.reader.now.progress (said c.lengths_answer-else-has_sign.result) h.progress h.radix h.fractions c.in-None.is (grind (arith, common_steps, c.signed.ensures, c.if-has_sign.false)) (c.lengths_answer-else-has_sign.ensures _ (lines input) (h.errors c.in-None.is)))
