-- Lemmas for the proofs of dependent crates.
use Rattle.std.specs.Prelude.{◌≡◌, ℕ, ℤ, Bool, List, ◌<◌, ◌≤◌, ◌^◌, ◌++◌, codes, false}
use Rattle.fixed_bits.specs.Formats.{FormatParts}
use Rattle.fixed_bits.specs.Ranges.{IsInRange, IsWide, IsWidth}
use Rattle.fixed_numeral.specs.declared.radix.Radix.{Radix}
use Rattle.fixed_show.specs.WordText.{IsWord, IsWordText}
use Rattle.fixed_respell.specs.Answer.{respelled_answer}
use Rattle.fixed_respell.specs.Language.{fault_answer}
use Rattle.fixed_write.specs.Texts.{IsShortestText, last_digits}
use Rattle.fixed_command.specs.Hex.{word_of}
use Rattle.fixed_command.specs.Convert.{IsMovedAnswer, IsReply, asks_a_line}
use Rattle.fixed_command.specs.Printed.{printed}
use Rattle.fixed_command.specs.declared.convert.Settings.{Settings}
use Rattle.fixed_command.specs.Explained.{BytesAreTheOnes, OverflowIsTheOne}
use Rattle.fixed_command.specs.Laws.{OutcomeIsTheOne, PrintedBitsAreWords}
use Rattle.fixed_command.specs.NameLaws.{NamesAreTheOnes}
use Rattle.fixed_command.proofs.AskingLemmas
use Rattle.fixed_command.proofs.ExplainLawLemmas
use Rattle.fixed_command.proofs.NameLawLemmas
use Rattle.fixed_command.proofs.OutcomeLemmas
use Rattle.fixed_command.proofs.WordLemmas

-- ---- register words
-- a number in hexadecimal after `0x`, with enough digits for it
pub spelled_number : (bare : Radix) (k n : ℕ) → 0 < k → n < 16 ^ k → IsWordText bare (codes "0x" ++ last_digits 16 false k n) n
spelled_number = WordLemmas.spelled_number

-- all bits of a register word in hexadecimal after `0x`, with enough digits for them
pub spelled_word : (f : FormatParts) (bare : Radix) (k : ℕ) (v : ℤ) → IsWidth f.width → IsInRange f.signed f.width v → 0 < k → 2 ^ f.width ≤ 16 ^ k → IsWord bare f (codes "0x" ++ last_digits 16 false k (word_of f.width v)) v
spelled_word = WordLemmas.spelled_word

pub word_fits : (f : FormatParts) (v : ℤ) → IsWidth f.width → IsInRange f.signed f.width v → word_of f.width v < 2 ^ f.width
word_fits = WordLemmas.word_fits

-- bits as they are printed
pub printed_bits : PrintedBitsAreWords
printed_bits = WordLemmas.printed_words

-- ---- replies
-- the reply for a number that is moved in the target mode
pub moved_reply : (s : Settings) (numeral text : List ℕ) (bits : ℤ) (o : Bool) → asks_a_line s.spelling s.target_mode ≡ false → IsMovedAnswer s numeral (respelled_answer text bits o) → IsShortestText bits s.target.frac text → IsWide bits
    → IsReply s numeral (record { text = printed s.print s.target (respelled_answer text bits o).text text bits; fault = false })
moved_reply = AskingLemmas.moved_reply

pub fault_reply : (s : Settings) (numeral message : List ℕ) → asks_a_line s.spelling s.target_mode ≡ false → IsMovedAnswer s numeral (fault_answer message) → IsReply s numeral (fault_answer message)
fault_reply = AskingLemmas.fault_reply

-- ---- outcomes
-- a numeral has at most one outcome
pub outcome_one : OutcomeIsTheOne
outcome_one = OutcomeLemmas.outcome_one

-- ---- options
pub names_one : NamesAreTheOnes
names_one = NameLawLemmas.names_one

-- ---- refused numerals
-- the byte that makes a numeral invalid has one explanation
pub bytes_one : BytesAreTheOnes
bytes_one = ExplainLawLemmas.bytes_one

-- an overflow has one explanation
pub overflow_one : OverflowIsTheOne
overflow_one = ExplainLawLemmas.overflow_one
