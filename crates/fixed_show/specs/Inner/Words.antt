-- The number that the digits of a word spell.
use Rattle.std.specs.Prelude.{◌≡◌, ℕ, min, false, true, List, []}
use Rattle.std.specs.Str.Parse.{AllDigits}
use Rattle.fixed_numeral.specs.Numeral.{base}
use Rattle.fixed_numeral.specs.declared.radix.Radix.{Radix}
use Rattle.fixed_show.specs.WordText.{IsWordText, begins_with_underscore, word_digits, word_radix}
use Rattle.fixed_show.specs.declared.words.WordFault.{WordFault}
use Rattle.fixed_show.specs.declared.words.WordFault.TheVariants.{MisplacedUnderscore, InvalidDigit, NoDigits}
use Rattle.fixed_show.specs.declared.words.WordFault.TheVariants.{TooWide, OutOfRange}

-- the text spells a number, and `c` is that number or 2^64, whichever is less
pub record IsCutOff (bare : Radix) (text : List ℕ) (c : ℕ) : Type 0 where
  pub number : ℕ
  pub spells : IsWordText bare text number
  pub cut : c ≡ min number 18446744073709551616

-- `fault` says why a text without a sign spells no number
abbrev pub IsUnspelled : Radix → List ℕ → WordFault → Type 0
IsUnspelled bare text MisplacedUnderscore = begins_with_underscore text ≡ true
IsUnspelled bare text InvalidDigit = (begins_with_underscore text ≡ false)
    × (¬ AllDigits (base (word_radix bare text)) (word_digits bare text))
IsUnspelled bare text NoDigits = (begins_with_underscore text ≡ false) × (word_digits bare text ≡ [])
IsUnspelled bare text TooWide = ⊥
IsUnspelled bare text OutOfRange = ⊥
