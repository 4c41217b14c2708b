-- A word of bits is packed into one word, or refused for one fault.
use Rattle.std.proofs.Common.{◌≡◌, ◌∙◌, List, ℕ, sym, ap}
use Rattle.fixed_command.specs.Convert.{without_return}
use Rattle.fixed_show.proofs.Public.{word_fault_one, word_has_no_fault, word_one}
use Rattle.fixed_show.specs.declared.words.WordFault.{WordFault}
use Rattle.fixed_pack.specs.Bits.{AreBitsPacked, AreBitsRefused}
use Rattle.fixed_pack.specs.Word.{word_bytes}
use Rattle.fixed_pack.specs.declared.bits.PackBits.{PackBits}

pub bits_one : (s : PackBits) (line a b : List ℕ) → AreBitsPacked s line a → AreBitsPacked s line b → a ≡ b
bits_one s line a b x y =
    let same = word_one s.radix s.format (without_return line) x.bits y.bits x.width x.read y.read in
    x.word_is ∙ (ap (word_bytes s.endian s.format) same ∙ sym y.word_is)

pub bits_cause : (s : PackBits) (line : List ℕ) (a b : WordFault) → AreBitsRefused s line a → AreBitsRefused s line b
    → a ≡ b
bits_cause s line a b x y = word_fault_one s.radix s.format (without_return line) a b x y

pub bits_never : (s : PackBits) (line word : List ℕ) (fault : WordFault) → AreBitsPacked s line word
    → AreBitsRefused s line fault → ⊥
bits_never s line word fault x y = word_has_no_fault s.radix s.format (without_return line) fault x.bits y x.read
