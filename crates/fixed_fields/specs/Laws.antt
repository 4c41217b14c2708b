-- Laws of answers about fields.
use Rattle.std.specs.Prelude.{◌≡◌, ℕ, Bool, List}
use Rattle.fixed_show.specs.declared.form.Form.{Form}
use Rattle.fixed_fields.specs.Answer.{IsFieldsAnswer}
use Rattle.fixed_fields.specs.declared.answer.FieldsQuestion.{FieldsQuestion}

-- a word has one answer to a question about its fields
abbrev pub FieldsAnswerIsTheOne : Type 0
FieldsAnswerIsTheOne = (form : Form) (q : FieldsQuestion) (word : List ℕ) (o p : Bool) (a b : List ℕ)
    → IsFieldsAnswer form q word o a → IsFieldsAnswer form q word p b → (o ≡ p) × (a ≡ b)
