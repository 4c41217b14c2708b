-- Refused operands of `fixed show` and `fixed bits`.
use Rattle.std.proofs.Common.{◌≡◌, ℕ, List, None, Option, Some, inl, inr, subst}
use Rattle.command_line.specs.Words.{word_at}
use Rattle.command_line.specs.declared.given.Given.{Given}
use Rattle.fixed_amounts.proofs.Public.{decimal_name_one}
use Rattle.fixed_amounts.specs.declared.facts.AmountQuestion.{AmountQuestion}
use Rattle.fixed_bits.specs.Formats.{FormatParts}
use Rattle.fixed_command.specs.declared.blocks.Question.{Question}
use Rattle.fixed_show.specs.declared.parts.Part.{Part}
use Rattle.fixed.specs.Amounts.{IsDecimalAsked, NamesNoDecimal}
use Rattle.fixed.specs.Lines.{IsFormatAsked, IsPartAsked}
use Rattle.fixed.specs.Questions.{IsAskedBy, IsBinaryWordAsked}
use Rattle.fixed.proofs.LawLemmas.{lines_one}

pub decimal_one : (word : Option (List ℕ)) (f g : ℕ) → IsDecimalAsked word f → IsDecimalAsked word g → f ≡ g
decimal_one None f g x y = absurd x
decimal_one (Some word) f g x y = decimal_name_one word f g x y

-- no amount question in this decimal format is valid, so the operands have no question
pub amount_refused : (given : Given) (Asks : ℕ → AmountQuestion → Type 0) (Binary : Question → Type 0) (q : Question) (format : ℕ) → IsDecimalAsked (word_at given 0) format
    → ((a : AmountQuestion) → Asks format a → ⊥) → IsAskedBy given Asks Binary q → ⊥
amount_refused given Asks Binary q format is none (inl asked) =
    none asked.asked (subst (λ f. Asks f asked.asked) (decimal_one (word_at given 0) asked.format format asked.is_format is) asked.is_asked)
amount_refused given Asks Binary q format is none (inr asked) = asked.0 format is

-- the operands name no decimal format, and no question in a binary format is valid
pub binary_refused : (given : Given) (Asks : ℕ → AmountQuestion → Type 0) (Binary : Question → Type 0) (q : Question) → NamesNoDecimal (word_at given 0)
    → (Binary q → ⊥) → IsAskedBy given Asks Binary q → ⊥
binary_refused given Asks Binary q none not (inl asked) = none asked.format asked.is_format
binary_refused given Asks Binary q none not (inr asked) = not asked.1

-- no part in this binary format is valid
pub part_refused : (given : Given) (format : FormatParts) (q : Question) → IsFormatAsked (word_at given 0) format → ((a : Option Part) → IsPartAsked format given a → ⊥)
    → IsBinaryWordAsked given q → ⊥
part_refused given format q is none asked =
    none asked.part (subst (λ (f : FormatParts). IsPartAsked f given asked.part) (lines_one.format (word_at given 0) asked.format format asked.is_format is) asked.is_part)
