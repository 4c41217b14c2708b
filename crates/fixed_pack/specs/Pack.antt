-- The words of numerals that are packed.
use Rattle.std.specs.Prelude.{◌≡◌, ℕ, ℤ, Bool, List, [], ◌∷◌}
use Rattle.fixed_bits.specs.Ranges.{IsWidth}
use Rattle.fixed_command.specs.Convert.{without_return}
use Rattle.fixed_numeral.specs.declared.error.ParseErrorKind.{ParseErrorKind}
use Rattle.fixed_show.specs.ShowBlock.{IsReadAs, IsUnread}
use Rattle.fixed_pack.specs.Word.{word_bytes}
use Rattle.fixed_pack.specs.declared.pack.PackSettings.{PackSettings}

-- the line without one carriage return at its end is a numeral, and word is that of its bits
pub record IsPacked (s : PackSettings) (line word : List ℕ) : Type 0 where
  pub width : IsWidth s.format.width
  pub bits : ℤ
  pub overflowed : Bool
  pub read : IsReadAs s.mode s.radix (without_return line) s.format s.policy bits overflowed
  pub word_is : word ≡ word_bytes s.endian s.format bits

-- the line has no word, and kind says why
abbrev pub IsRefused : PackSettings → List ℕ → ParseErrorKind → Type 0
IsRefused s line kind = IsUnread s.mode s.radix (without_return line) s.format s.policy kind

-- these are the words of these lines, one each and in order: `P line word` says what a line becomes
abbrev pub AreWordsOf : (List ℕ → List ℕ → Type 0) → List (List ℕ) → List (List ℕ) → Type 0
AreWordsOf P [] [] = Unit {0}
AreWordsOf P [] (word ∷ words) = ⊥
AreWordsOf P (line ∷ lines) [] = ⊥
AreWordsOf P (line ∷ lines) (word ∷ words) = P line word × AreWordsOf P lines words

abbrev pub ArePacked : PackSettings → List (List ℕ) → List (List ℕ) → Type 0
ArePacked s lines words = AreWordsOf (IsPacked s) lines words
