-- A field has one reply.
use Rattle.std.proofs.Common.{◌≡◌, ◌∙◌, ◌==◌, ℕ, List, [], ◌∷◌, Bool, true, false, ap, length, sym}
use Rattle.fixed_numeral.specs.declared.radix.Radix.{Radix}
use Rattle.line_engine.specs.AnswerText.{AnswerText}
use Rattle.fixed_command.specs.Fields.{IsEmptyReply, IsFieldReply, IsFieldReplyBy, IsReadReply, bare}
use Rattle.fixed_command.specs.Fields.{field_numeral, in_mark, is_misplaced}
use Rattle.fixed_command.specs.declared.field.Empty.{Empty}
use Rattle.fixed_command.specs.declared.field.Empty.TheVariants.{Kept, Refused, Zero}
use Rattle.fixed_command.specs.declared.field.FieldForm.{FieldForm}

-- if a line has one
module _ (form : FieldForm) (radix : Radix) (A : List ℕ → AnswerText → Type 0)
    (one : (line : List ℕ) (a b : AnswerText) → A line a → A line b → a ≡ b) where
  empty_reply_one : (empty : Empty) (a b : AnswerText) → IsEmptyReply empty A a → IsEmptyReply empty A b → a ≡ b
  empty_reply_one Kept a b x y = x ∙ sym y
  empty_reply_one Refused a b x y = one [] a b x y
  empty_reply_one Zero a b x y = one (48 ∷ []) a b x y

  read_reply_one : (is_misplaced : Bool) (field : List ℕ) (a b : AnswerText) → IsReadReply is_misplaced form A field a
      → IsReadReply is_misplaced form A field b → a ≡ b
  read_reply_one true field a b x y = x ∙ sym y
  read_reply_one false field a b x y = one (field_numeral form field) a b x y

  reply_by_one : (is_empty : Bool) (field : List ℕ) (a b : AnswerText) → IsFieldReplyBy is_empty form radix A field a
      → IsFieldReplyBy is_empty form radix A field b → a ≡ b
  reply_by_one true field a b x y = empty_reply_one form.empty a b x y
  reply_by_one false field a b x y = read_reply_one (is_misplaced form radix (bare form field)) field a b x y

  pub field_reply_one : (field : List ℕ) (a b : AnswerText) → IsFieldReply form radix A field a
      → IsFieldReply form radix A field b → a ≡ b
  field_reply_one field a b x y =
      let same : x.0 ≡ y.0 = reply_by_one (length (bare form field) == 0) field x.0 y.0 x.1 y.1 in
      x.2 ∙ (ap (in_mark form.mark) same ∙ sym y.2)
