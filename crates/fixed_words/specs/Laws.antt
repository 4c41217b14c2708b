-- The statements of this crate's laws.
use Rattle.std.specs.Prelude.{◌≡◌, ℕ, List}
use Rattle.line_engine.specs.AnswerText.{AnswerText}
use Rattle.fixed_words.specs.declared.rule.WordRule.{WordRule}
use Rattle.fixed_words.specs.Words.{IsWorded}

-- a text is converted to one text, with or without a refused word
abbrev pub WordedIsTheOne : Type 0
WordedIsTheOne = (s : WordRule) (bytes : List ℕ) (a b : AnswerText) → IsWorded s bytes a → IsWorded s bytes b → a ≡ b
