-- The products of `fixed constants`: several files as one input, and what is written for it.
use Rattle.std.specs.Prelude.{◌==◌, ◌+◌, ◌-◌, ◌^◌, ◌++◌, ℕ, Bool, List, [], ◌∷◌, if◌then◌else◌, length, min, take}
use Rattle.std.specs.Prelude.{true}
use Rattle.command_line.specs.Device.{strip_bom}
use Rattle.fixed_arrays.specs.Answer.{IsArrayAnswer}
use Rattle.fixed_arrays.specs.Literals.{IsLiteralArrayAnswer}
use Rattle.fixed_command.specs.Products.{IsProduct}
use Rattle.fixed_command.specs.Renamed.{IsRenamedAnswer}
use Rattle.fixed_command.specs.Swapped.{IsSwappedAnswer}
use Rattle.fixed_constants.specs.Forms.{IsFormAnswer}
use Rattle.fixed_constants.specs.Plain.{IsPlainAnswer}
use Rattle.line_engine.specs.AnswerText.{AnswerText}
use Rattle.line_engine.specs.Lines.{lines}
use Rattle.fixed.specs.declared.product.Product.{Product}
use Rattle.fixed.specs.declared.product.Product.TheVariants as product

-- whether a text is empty or ends with a newline
abbrev pub ends_line : List ℕ → Bool
ends_line [] = true
ends_line (b ∷ []) = b == 10
ends_line (b ∷ c ∷ bytes) = ends_line (c ∷ bytes)

-- the text and, if a line of it has not ended, a newline
abbrev pub ended : List ℕ → List ℕ
ended text = if ends_line text then text else text ++ 10 ∷ []

-- how many bytes more are taken: up to one past the limit
abbrev pub room : ℕ → List ℕ → ℕ
room limit text = min (limit + 1) (2 ^ 64 - 1) - length text

-- the text of the files so far, and that of one more, without a byte order mark at its beginning, as far as it is taken
abbrev pub with_file : ℕ → List ℕ → List ℕ → List ℕ
with_file limit text file = ended text ++ take (room limit (ended text)) (strip_bom file)

-- how many lines a text has
abbrev pub count_lines : List ℕ → ℕ
count_lines text = min (length (lines text)) (2 ^ 64 - 1)

-- the product of an input, or its refusal
abbrev pub IsAnswerOf : Product → List ℕ → AnswerText → Type 0
IsAnswerOf (product.Constants rule) = IsPlainAnswer (IsRenamedAnswer (IsFormAnswer rule.form rule.guard.now))
IsAnswerOf (product.List list) = IsSwappedAnswer list.decimal (IsArrayAnswer list.rule)
IsAnswerOf (product.Literals list) = IsPlainAnswer (IsRenamedAnswer (IsLiteralArrayAnswer list))

-- the same, where nothing is written for a refused input
abbrev pub IsProductOf : Product → List ℕ → AnswerText → Type 0
IsProductOf product = IsProduct (IsAnswerOf product)
