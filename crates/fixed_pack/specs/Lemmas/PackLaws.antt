-- A numeral is packed into one word, or refused for one cause.
use Rattle.std.proofs.Common.{◌≡◌, ◌∙◌, List, ℕ, sym, ap}
use Rattle.fixed_command.specs.Convert.{without_return}
use Rattle.fixed_command.specs.Lemmas.MovedLemmas.{read_bits_one, read_or_not, unread_one}
use Rattle.fixed_numeral.specs.declared.error.ParseErrorKind.{ParseErrorKind}
use Rattle.fixed_pack.specs.Pack.{IsPacked, IsRefused}
use Rattle.fixed_pack.specs.Word.{word_bytes}
use Rattle.fixed_pack.specs.declared.pack.PackSettings.{PackSettings}

pub word_one : (s : PackSettings) (line a b : List ℕ) → IsPacked s line a → IsPacked s line b → a ≡ b
word_one s line a b x y =
    let same = read_bits_one s.mode s.radix (without_return line) s.format s.policy x.bits y.bits x.overflowed
    y.overflowed x.width x.read y.read in
    x.word_is ∙ (ap (word_bytes s.endian s.format) same ∙ sym y.word_is)

pub kind_one : (s : PackSettings) (line : List ℕ) (k l : ParseErrorKind) → IsRefused s line k → IsRefused s line l
    → k ≡ l
kind_one s line k l x y = unread_one s.mode s.radix (without_return line) s.format s.policy k l x y

pub word_never : (s : PackSettings) (line word : List ℕ) (k : ParseErrorKind) → IsPacked s line word
    → IsRefused s line k → ⊥
word_never s line word k x y = read_or_not s.mode s.radix (without_return line) s.format s.policy x.bits x.overflowed k
    x.read y
