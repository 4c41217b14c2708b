-- The statements of this crate's laws.
use Rattle.std.specs.Prelude.{◌≡◌, ℕ, Bool, List}
use Rattle.line_engine.specs.AnswerText.{AnswerText}
use Rattle.fixed_amounts.specs.Names.{IsDecimalName}
use Rattle.fixed_amounts.specs.Facts.{IsAmountBlock, IsAmountObject}
use Rattle.fixed_amounts.specs.Reply.{IsReply}
use Rattle.fixed_amounts.specs.declared.facts.AmountQuestion.{AmountQuestion}
use Rattle.fixed_amounts.specs.declared.settings.AmountSettings.{AmountSettings}

-- a numeral, or a count of units, has at most one reply
abbrev pub AmountReplyIsTheOne : Type 0
AmountReplyIsTheOne = (s : AmountSettings) (bytes : List ℕ) (a b : AnswerText) → IsReply s bytes a → IsReply s bytes b
    → a ≡ b

-- a word names at most one decimal format
abbrev pub DecimalNameIsTheOne : Type 0
DecimalNameIsTheOne = (word : List ℕ) (m n : ℕ) → IsDecimalName word m → IsDecimalName word n → m ≡ n

-- a word has one block
abbrev pub AmountBlockIsTheOne : Type 0
AmountBlockIsTheOne = (q : AmountQuestion) (word : List ℕ) (o p : Bool) (a b : List ℕ) → IsAmountBlock q word o a
    → IsAmountBlock q word p b → (o ≡ p) × (a ≡ b)

-- a word has one object of JSON
abbrev pub AmountObjectIsTheOne : Type 0
AmountObjectIsTheOne = (q : AmountQuestion) (word : List ℕ) (o p : Bool) (a b : List ℕ) → IsAmountObject q word o a
    → IsAmountObject q word p b → (o ≡ p) × (a ≡ b)
