-- A list has one answer of `fixed least`.
use Rattle.std.proofs.Common.{◌≡◌, ◌∙◌, ℕ, Bool, List, ap, if◌then◌else◌, sym}
use Rattle.fixed_least.specs.Lemmas.LeastLemmas.{answer_one}
use Rattle.line_engine.specs.AnswerText.{AnswerText}
use Rattle.fixed_command.specs.LeastLines.{IsLeastWritten, without_reasons}
use Rattle.fixed_command.specs.declared.least_lines.LeastLines.{LeastLines}

abbrev reply_of : List ℕ → Bool → AnswerText
reply_of t o = record { text = t; fault = o }

pub least_written_one : (rule : LeastLines) (input : List ℕ) (a b : AnswerText) → IsLeastWritten rule input a
    → IsLeastWritten rule input b → a ≡ b
least_written_one rule input a b x y =
    let full : x.full ≡ y.full = answer_one rule.radix input x.full y.full x.is_full y.is_full in
    let shown : AnswerText → List ℕ = λ t. if rule.is_reason_asked then t.text else without_reasons t.text in
    let text : a.text ≡ b.text = x.text_is ∙ ap shown full ∙ sym y.text_is in
    let fault : a.fault ≡ b.fault = x.fault_is ∙ ap (λ (t : AnswerText). t.fault) full ∙ sym y.fault_is in
    ap (λ t. reply_of t a.fault) text ∙ ap (λ o. reply_of b.text o) fault
