-- Amounts that are packed into words of 64 bits, and such words that are unpacked.
use Rattle.std.specs.Prelude.{◌≡◌, ℕ, ℤ, Bool, false, List, [], ◌∷◌, ◌++◌, None, Option}
use Rattle.fixed_amounts.specs.Reading.{IsReadAs, IsUnread, words}
use Rattle.fixed_amounts.specs.Reply.{printed}
use Rattle.fixed_amounts.specs.declared.settings.AmountPrint.TheVariants.{Text}
use Rattle.fixed_command.specs.Convert.{without_return}
use Rattle.fixed_decimal.specs.Texts.{decimal_format_text}
use Rattle.fixed_numeral.specs.declared.error.ParseErrorKind.{ParseErrorKind}
use Rattle.fixed_pack.specs.Pack.{AreWordsOf}
use Rattle.fixed_pack.specs.Recoded.{AreRecoded}
use Rattle.fixed_pack.specs.Unpack.{AreWords}
use Rattle.fixed_pack.specs.Word.{IsBitsOf, joined, number_of, word_bytes}
use Rattle.fixed_pack.specs.declared.amounts.PackAmounts.{PackAmounts}
use Rattle.fixed_pack.specs.declared.amounts.UnpackAmounts.{UnpackAmounts}
use Rattle.fixed_pack.specs.declared.float_words.WordRefusal.{WordRefusal}

-- the line without one carriage return at its end is a numeral, and word is that of its count of units
pub record IsAmountPacked (s : PackAmounts) (line word : List ℕ) : Type 0 where
  pub units : ℤ
  pub overflowed : Bool
  pub read : IsReadAs s.mode (without_return line) s.format s.policy units overflowed
  pub word_is : word ≡ word_bytes s.endian words units

-- the line has no word, and kind says why
abbrev pub IsAmountRefused : PackAmounts → List ℕ → ParseErrorKind → Type 0
IsAmountRefused s line kind = IsUnread s.mode (without_return line) s.format s.policy kind

-- the line of a word is the requested part of its count of units; no word is refused
pub record IsAmountLine (r : UnpackAmounts) (word line : List ℕ) (cause : Option WordRefusal) : Type 0 where
  pub units : ℤ
  pub are : IsBitsOf words (number_of r.endian word) units
  pub line_is : line ≡ printed r.print r.format units false ++ 10 ∷ []
  pub clean : cause ≡ None

-- ---- what was packed is unpacked
-- the words of these settings are unpacked to the texts of their amounts
pub record UndoesAmounts (s : PackAmounts) (u : UnpackAmounts) : Type 0 where
  pub endian : u.endian ≡ s.endian
  pub format : u.format ≡ s.format
  pub print : u.print ≡ Text

-- the text made of a word is that of the amount that the line was read as
pub record HasAmountText (s : PackAmounts) (line : List ℕ) (made : List ℕ × Option WordRefusal) : Type 0 where
  pub units : ℤ
  pub overflowed : Bool
  pub read : IsReadAs s.mode (without_return line) s.format s.policy units overflowed
  pub text_is : made.0 ≡ decimal_format_text units s.format ++ 10 ∷ []

abbrev pub HaveAmountTexts : PackAmounts → List (List ℕ) → List (List ℕ × Option WordRefusal) → Type 0
HaveAmountTexts s [] [] = Unit {0}
HaveAmountTexts s [] (made ∷ all) = ⊥
HaveAmountTexts s (line ∷ lines) [] = ⊥
HaveAmountTexts s (line ∷ lines) (made ∷ all) = HasAmountText s line made × HaveAmountTexts s lines all

-- the words of lines, one after another, are cut into the same words again, and these become the texts of the amounts
pub record UnpacksAmounts (s : PackAmounts) (u : UnpackAmounts) (lines words : List (List ℕ)) : Type 0 where
  pub words_are : AreWords 8 (joined words) words []
  pub texts : (all : List (List ℕ × Option WordRefusal)) → AreRecoded (IsAmountLine u) words all
      → HaveAmountTexts s lines all

abbrev pub PackedAmountsUnpack : Type 0
PackedAmountsUnpack = (s : PackAmounts) (u : UnpackAmounts) (lines words : List (List ℕ)) → UndoesAmounts s u
    → AreWordsOf (IsAmountPacked s) lines words → UnpacksAmounts s u lines words
