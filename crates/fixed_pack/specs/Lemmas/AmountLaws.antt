-- An amount is packed into one word, or refused for one cause, and a word is unpacked into one line.
use Rattle.std.proofs.Common.{◌≡◌, ◌∙◌, ◌∷◌, ◌++◌, [], List, ℕ, ℤ, Option, false, sym, ap}
use Rattle.std.specs.Prelude.{is_some}
use Rattle.fixed_amounts.specs.Lemmas.ReplyLemmas.{read_as_one, read_or_not, unread_one}
use Rattle.fixed_amounts.specs.Reading.{words}
use Rattle.fixed_amounts.specs.Reply.{printed}
use Rattle.fixed_command.specs.Convert.{without_return}
use Rattle.fixed_numeral.specs.declared.error.ParseErrorKind.{ParseErrorKind}
use Rattle.fixed_pack.specs.Amounts.{IsAmountLine, IsAmountPacked, IsAmountRefused}
use Rattle.fixed_pack.specs.Lemmas.FloatLaws.{same_word}
use Rattle.fixed_pack.specs.Word.{IsBitsOf, word_bytes}
use Rattle.fixed_pack.specs.declared.amounts.PackAmounts.{PackAmounts}
use Rattle.fixed_pack.specs.declared.amounts.UnpackAmounts.{UnpackAmounts}
use Rattle.fixed_pack.specs.declared.float_words.WordRefusal.{WordRefusal}

pub amount_one : (s : PackAmounts) (line a b : List ℕ) → IsAmountPacked s line a → IsAmountPacked s line b → a ≡ b
amount_one s line a b x y =
    let same = read_as_one s.mode (without_return line) s.format s.policy x.units y.units x.overflowed y.overflowed
    x.read y.read in
    x.word_is ∙ (ap (word_bytes s.endian words) same.0 ∙ sym y.word_is)

pub cause_one : (s : PackAmounts) (line : List ℕ) (k l : ParseErrorKind) → IsAmountRefused s line k
    → IsAmountRefused s line l → k ≡ l
cause_one s line k l x y = unread_one s.mode (without_return line) s.format s.policy k l x y

pub amount_never : (s : PackAmounts) (line word : List ℕ) (k : ParseErrorKind) → IsAmountPacked s line word
    → IsAmountRefused s line k → ⊥
amount_never s line word k x y = read_or_not s.mode (without_return line) s.format s.policy x.units x.overflowed k
    x.read y

pub units_one : (n : ℕ) (v w : ℤ) → IsBitsOf words n v → IsBitsOf words n w → v ≡ w
units_one n v w p q = same_word words.signed words.width v w p.width p.in_range q.in_range (p.word_is ∙ sym q.word_is)

pub amount_line_one : (r : UnpackAmounts) (word a b : List ℕ) (c d : Option WordRefusal) → IsAmountLine r word a c
    → IsAmountLine r word b d → (a ≡ b) × (is_some c ≡ is_some d)
amount_line_one r word a b c d x y =
    let same : x.units ≡ y.units = units_one _ x.units y.units x.are y.are in (
      x.line_is ∙ (ap (λ (v : ℤ). printed r.print r.format v false ++ 10 ∷ []) same ∙ sym y.line_is),
      ap is_some (x.clean ∙ sym y.clean),
    )
