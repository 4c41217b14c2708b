use Rattle.std.proofs.Common.{◌∙◌, Bool, List, ℕ, ap, if◌then◌else◌}
use Rattle.line_engine.specs.AnswerText.{AnswerText}
use Rattle.column_engine.specs.Answers.{FieldAnswer, as_field, in_quotes, stays}
use Rattle.column_engine.proofs.answer.answer_asked.Goals as goal

pub returns-clause-answer : goal.returns-clause-answer
returns-clause-answer g c =
    let task = c.args.task.now in
    let raw : List ℕ = c.args.raw.now in
    let fault : Bool = c.reply_to-is_refused.result in
    let text : List ℕ = c.reply_to-is_refused.new.work.reply in
    let reply : AnswerText = record { text = text; fault = fault } in
    let quoted : List ℕ = in_quotes task.delimiter text in
    let plain : List ℕ = as_field task.delimiter text in
    let has : Bool = c.keeps_quotes-has_quotes.result in
    let same = ap (λ (l : List ℕ). stays task.keeps (record { text = l; fault = fault })) c.as_bytes.ensures.value in
    let made : List ℕ → FieldAnswer = λ (l : List ℕ). record { text = l; refused = fault } in (
      reply,
      c.reply_to-is_refused.ensures.reply,
      ap made (c.show-shown.ensures raw ∙ (ap (λ (b : Bool). if b then raw else (if has then quoted else plain)) (c.stays-is_same.ensures ∙ same)
          ∙ ap (λ (b : Bool). if stays task.keeps reply then raw else (if b then quoted else plain)) (c.keeps_quotes-has_quotes.ensures text))),
    )
