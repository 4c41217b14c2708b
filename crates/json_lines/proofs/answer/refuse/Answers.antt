use Rattle.std.proofs.Common.{◌++◌, ◌∙◌, ap, arith, codes, take}
use Rattle.line_engine.specs.Lines.{kept_length}
use Rattle.json_lines.specs.Answers.{fault_text}
use Rattle.json_lines.proofs.AnswerLemmas.{fault_short, two_parts}
use Rattle.json_lines.proofs.answer.refuse.Goals as goal

pub returns : goal.returns
returns c = c.append-2.ensures
    ∙ (ap (λ l. take kept_length (l ++ c.message.result.now)) (c.append.ensures ∙ ap (λ l. take kept_length (l ++ codes "error: ")) c.clear.ensures)
    ∙ (ap (λ l. take kept_length (take kept_length (codes "error: ") ++ l)) c.message.ensures
    ∙ two_parts kept_length (codes "error: ") (fault_text c.args.fault) (omega (arith, fault_short c.args.fault))))
