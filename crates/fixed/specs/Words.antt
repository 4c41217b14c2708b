-- The meaning of the options of `fixed convert --words`.
use Rattle.std.specs.Prelude.{◌≡◌, ◌==◌, ◌&&◌, ◌||◌, ◌<◌, ◌≤◌, ℕ, Bool, true, false, not, List, None, Option, Some}
use Rattle.std.specs.Prelude.{codes, length, nat_lt, unwrap_or}
use Rattle.std.specs.Char.{is_ascii_alphanumeric}
use Rattle.std.specs.List.{list_all, list_any}
use Rattle.command_line.specs.Words.{value_of}
use Rattle.command_line.specs.declared.given.Given.{Given}
use Rattle.fixed_words.specs.Words.{is_separator}
use Rattle.fixed_words.specs.declared.rule.Leaving.{Leaving}
use Rattle.fixed_words.specs.declared.rule.Leaving.TheVariants.{Everything, NoNumerals, Nothing}
use Rattle.fixed_words.specs.declared.rule.WordRule.{WordRule}

-- whether a byte may separate words: ASCII, and not one that a numeral has
abbrev pub may_separate : ℕ → Bool
may_separate byte = (nat_lt byte 128 && not (is_ascii_alphanumeric byte))
    && not (byte == 43 || byte == 45 || byte == 46 || byte == 64)

-- the bytes that separate words, besides blanks: a comma without a value
pub record AreSeparatorsAsked (value : Option (List ℕ)) (bytes : List ℕ) : Type 0 where
  pub text : bytes ≡ unwrap_or value (codes ",")
  pub may : list_all may_separate bytes ≡ true

-- whether a word contains a byte that separates words
abbrev pub has_separator : List ℕ → List ℕ → Bool
has_separator separators word = list_any (is_separator separators) word

-- the token written for a refused word: one word of at most 64 bytes, `error` without a value
pub record IsTokenAsked (separators : List ℕ) (value : Option (List ℕ)) (token : List ℕ) : Type 0 where
  pub text : token ≡ unwrap_or value (codes "error")
  pub some : 0 < length token
  pub most : length token ≤ 64
  pub one : has_separator separators token ≡ false

-- which refused words stay
abbrev pub IsLeavingWord : List ℕ → Leaving → Type 0
IsLeavingWord word Nothing = ⊥
IsLeavingWord word NoNumerals = word ≡ codes "text"
IsLeavingWord word Everything = word ≡ codes "all"

abbrev pub IsLeavingAsked : Option (List ℕ) → Leaving → Type 0
IsLeavingAsked None leaves = leaves ≡ Nothing
IsLeavingAsked (Some word) leaves = IsLeavingWord word leaves

-- how words are converted
pub record IsWordRuleAsked (given : Given) (rule : WordRule) : Type 0 where
  pub separators : AreSeparatorsAsked (value_of given (codes "separators")) rule.separators.now
  pub token : IsTokenAsked rule.separators.now (value_of given (codes "refused")) rule.token
  pub leaves : IsLeavingAsked (value_of given (codes "keep")) rule.leaves
