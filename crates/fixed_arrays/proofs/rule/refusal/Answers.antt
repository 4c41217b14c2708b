use Rattle.std.proofs.Common.{◌≡◌, ◌∙◌, ◌∷◌, ◌++◌, List, ℕ, [], ap, arith, sym}
use Rattle.std.proofs.lemmas.Fmt.{decimal_digit}
use Rattle.std.proofs.lemmas.Result.{IfOk-weaker}
use Rattle.std.specs.Prelude.{codes}
use Rattle.line_engine.specs.AnswerText.{AnswerText}
use Rattle.line_engine.specs.Refusals.{refusal_reply, refusal_text, reply_of}
use Rattle.line_engine.specs.declared.whole_rule.WholeAnswer.{WholeAnswer}
use Rattle.fixed_arrays.specs.Answer.{fault_line}
use Rattle.fixed_arrays.proofs.rule.refusal.Goals as goal

-- the refusal of the first line
of_line_1 : (cause : List ℕ) → refusal_text 1 cause ≡ codes "error: line 1: " ++ (cause ++ 10 ∷ [])
of_line_1 cause = ap (λ d. codes "error: line " ++ (d ++ (codes ": " ++ (cause ++ 10 ∷ [])))) (decimal_digit 1 (omega arith))

pub returns-in-Empty-clause-text : goal.returns-in-Empty-clause-text
returns-in-Empty-clause-text c = IfOk-weaker c.refused.result
    (λ (a : WholeAnswer). reply_of a ≡ refusal_reply 1 (codes "no numeral"))
    (λ (a : WholeAnswer). (reply_of a).text ≡ fault_line c.args.fault)
    (λ a is. ap (λ (t : AnswerText). t.text) is ∙ (of_line_1 (codes "no numeral") ∙ ap fault_line (sym c.in-Empty.is))) c.refused.ensures
