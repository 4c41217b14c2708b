-- Statements of this crate's laws.
use Rattle.std.specs.Prelude.{◌≡◌, ◌^◌, ◌<◌, ℕ, ℤ, Bool, false, List, []}
use Rattle.fixed_bits.specs.Formats.{IsFormat}
use Rattle.fixed_bits.specs.Ranges.{IsInRange}
use Rattle.fixed_bits.specs.declared.format.Policy.TheVariants.{Symmetric}
use Rattle.fixed_command.specs.Convert.{without_return}
use Rattle.fixed_command.specs.declared.print.Print.TheVariants.{Bits, Text}
use Rattle.fixed_numeral.specs.declared.error.ParseErrorKind.{ParseErrorKind}
use Rattle.fixed_numeral.specs.declared.radix.Radix.TheVariants.{Dec}
use Rattle.fixed_show.specs.ShowBlock.{IsReadAs}
use Rattle.fixed_write.specs.Texts.{IsShortestText}
use Rattle.line_engine.specs.AnswerText.{AnswerText}
use Rattle.line_engine.specs.Output.{AreAnswers}
use Rattle.fixed_pack.specs.Bits.{AreBitsPacked}
use Rattle.fixed_pack.specs.Pack.{ArePacked, IsPacked, IsRefused}
use Rattle.fixed_pack.specs.Packed.{Refusal, StopsAt}
use Rattle.fixed_pack.specs.Unpack.{AreWords, IsWordReply, count_of}
use Rattle.fixed_pack.specs.Word.{bytes_of, joined, number_of, word_bytes}
use Rattle.fixed_pack.specs.declared.bits.PackBits.{PackBits}
use Rattle.fixed_pack.specs.declared.endian.Endian.{Endian}
use Rattle.fixed_pack.specs.declared.pack.PackSettings.{PackSettings}
use Rattle.fixed_pack.specs.declared.unpack.UnpackRule.{UnpackRule}

-- ---- one outcome
-- the bytes of a number that fits in them are read as that number, in either order
abbrev pub WordReadsBack : Type 0
WordReadsBack = (endian : Endian) (count n : ℕ) → n < 256 ^ count → number_of endian (bytes_of endian count n) ≡ n

-- lines have at most one list of words
abbrev pub PackedIsTheOne : Type 0
PackedIsTheOne = (s : PackSettings) (lines a b : List (List ℕ)) → ArePacked s lines a → ArePacked s lines b → a ≡ b

-- a line is refused for at most one kind, and never if it has a word
pub record RefusalIsOne (s : PackSettings) (line : List ℕ) : Type 0 where
  pub one : (k l : ParseErrorKind) → IsRefused s line k → IsRefused s line l → k ≡ l
  pub never : (word : List ℕ) (k : ParseErrorKind) → IsPacked s line word → ¬ IsRefused s line k

abbrev pub RefusalIsTheOne : Type 0
RefusalIsTheOne = (s : PackSettings) (line : List ℕ) → RefusalIsOne s line

-- an input has at most one first refused line: what was made before it, its number, its first bytes and the cause
abbrev pub FirstRefusedIsTheOne : Type 0
FirstRefusedIsTheOne = (s : PackSettings) (bytes made other : List ℕ) (late later : Bool)
    (a b : Refusal ParseErrorKind) (kept then : List ℕ) → StopsAt (IsPacked s) (IsRefused s) bytes made late a kept
    → StopsAt (IsPacked s) (IsRefused s) bytes other later b then
    → (late ≡ later) × (made ≡ other) × (a ≡ b) × (kept ≡ then)

-- bytes are cut into words in one way
abbrev pub WordsAreTheOnes : Type 0
WordsAreTheOnes = (count : ℕ) (bytes : List ℕ) (a b : List (List ℕ)) (x y : List ℕ) → AreWords count bytes a x
    → AreWords count bytes b y → (a ≡ b) × (x ≡ y)

-- ---- what was packed is unpacked
-- the words of these settings are unpacked to the texts of their numbers: Symmetric is requested only if it was when
-- they were packed, since it excludes the lowest number
pub record Undoes (s : PackSettings) (u : UnpackRule) : Type 0 where
  pub endian : u.endian ≡ s.endian
  pub source : u.settings.source ≡ s.format
  pub target : u.settings.target ≡ s.format
  pub policy : u.settings.policy ≡ Symmetric → s.policy ≡ Symmetric
  pub print : u.settings.print ≡ Text

-- the reply is the shortest text of the number that the line was read as
pub record HasItsText (s : PackSettings) (line : List ℕ) (reply : AnswerText) : Type 0 where
  pub bits : ℤ
  pub overflowed : Bool
  pub read : IsReadAs s.mode s.radix (without_return line) s.format s.policy bits overflowed
  pub shortest : IsShortestText bits s.format.frac reply.text
  pub clean : reply.fault ≡ false

-- the words of lines, one after another, are cut into the same words again, and the replies to them are the texts
pub record UnpacksTo (s : PackSettings) (u : UnpackRule) (lines words : List (List ℕ)) : Type 0 where
  pub words_are : AreWords (count_of u) (joined words) words []
  pub texts : (replies : List AnswerText) → AreAnswers (IsWordReply u) words replies
      → AreAnswers (HasItsText s) lines replies

abbrev pub PackedUnpacks : Type 0
PackedUnpacks = (s : PackSettings) (u : UnpackRule) (lines words : List (List ℕ))
    → IsFormat s.format.width s.format.frac → Undoes s u → ArePacked s lines words → UnpacksTo s u lines words

-- ---- what was unpacked as bits is packed again
-- words of bits are packed to words of the format that this rule unpacks, of which it writes the bits in decimal:
-- Symmetric changes the lowest number
pub record Redoes (s : PackBits) (u : UnpackRule) : Type 0 where
  pub radix : s.radix ≡ Dec
  pub endian : u.endian ≡ s.endian
  pub source : u.settings.source ≡ s.format
  pub target : u.settings.target ≡ s.format
  pub policy : ¬ (u.settings.policy ≡ Symmetric)
  pub print : u.settings.print ≡ Bits

-- the reply to the word of some bits is not a fault, and is packed to that word
pub record PacksAgain (s : PackBits) (word : List ℕ) (reply : AnswerText) : Type 0 where
  pub clean : reply.fault ≡ false
  pub packed : AreBitsPacked s reply.text word

abbrev pub UnpackedBitsPack : Type 0
UnpackedBitsPack = (s : PackBits) (u : UnpackRule) (bits : ℤ) (reply : AnswerText)
    → IsFormat s.format.width s.format.frac → Redoes s u → IsInRange s.format.signed s.format.width bits
    → IsWordReply u (word_bytes s.endian s.format bits) reply
    → PacksAgain s (word_bytes s.endian s.format bits) reply
