-- Amounts that were packed are unpacked to their texts.
use Rattle.std.proofs.Common.{◌≡◌, ◌∙◌, ◌^◌, ◌<◌, ℕ, ℤ, List, [], ◌∷◌, Option, true, length, refl, sym, ap, subst, arith, append-nil}
use Rattle.fixed_amounts.specs.Lemmas.ReplyLemmas.{is_width}
use Rattle.fixed_amounts.specs.Reading.{words}
use Rattle.fixed_bits.proofs.Public.{image_within}
use Rattle.fixed_bits.specs.Ranges.{IsInRange}
use Rattle.fixed_command.proofs.Public.{word_fits}
use Rattle.fixed_command.specs.Hex.{word_of}
use Rattle.fixed_pack.specs.Amounts.{HasAmountText, HaveAmountTexts, IsAmountLine, IsAmountPacked, PackedAmountsUnpack, UndoesAmounts}
use Rattle.fixed_pack.specs.Lemmas.AmountLaws.{units_one}
use Rattle.fixed_pack.specs.Pack.{AreWordsOf}
use Rattle.fixed_pack.specs.Recoded.{AreRecoded}
use Rattle.fixed_pack.specs.Unpack.{HaveLength}
use Rattle.fixed_pack.specs.Word.{IsBitsOf, joined, number_of, word_bytes}
use Rattle.fixed_pack.specs.declared.amounts.PackAmounts.{PackAmounts}
use Rattle.fixed_pack.specs.declared.amounts.UnpackAmounts.{UnpackAmounts}
use Rattle.fixed_pack.specs.declared.endian.Endian.{Endian}
use Rattle.fixed_pack.specs.declared.float_words.WordRefusal.{WordRefusal}
use Rattle.fixed_pack.proofs.WordLemmas.{bytes_length, word_back}

-- the word of a count of units has the count as its bits
back : (endian : Endian) (v : ℤ) → IsInRange true 64 v → IsBitsOf words (number_of endian (word_bytes endian words v)) v
back endian v range =
    let fits : word_of 64 v < 256 ^ 8 = omega (arith, word_fits words v is_width range) in
    record { width = is_width; in_range = range; word_is = sym (word_back endian 8 (word_of 64 v) fits) }

one_text : (s : PackAmounts) (u : UnpackAmounts) (line word : List ℕ) (made : List ℕ × Option WordRefusal) → UndoesAmounts s u → IsAmountPacked s line word
    → IsAmountLine u word made.0 made.1 → HasAmountText s line made
one_text s u line word made undoes p h =
    let range : IsInRange true 64 p.units = (image_within s.policy true 64 p.read.number p.units p.read.image).0 in
    let there : word ≡ word_bytes u.endian words p.units = p.word_is ∙ ap (λ (e : Endian). word_bytes e words p.units) (sym undoes.endian) in
    let are : IsBitsOf words (number_of u.endian (word_bytes u.endian words p.units)) h.units = subst (λ (w : List ℕ). IsBitsOf words (number_of u.endian w) h.units) there h.are in
    let same : h.units ≡ p.units = units_one _ h.units p.units are (back u.endian p.units range) in
    record {
      units = p.units;
      overflowed = p.overflowed;
      read = p.read;
      text_is = h.line_is ∙ (rw (undoes.print, undoes.format, same) refl);
    }

all_texts : (s : PackAmounts) (u : UnpackAmounts) (lines words : List (List ℕ)) (all : List (List ℕ × Option WordRefusal)) → UndoesAmounts s u
    → AreWordsOf (IsAmountPacked s) lines words → AreRecoded (IsAmountLine u) words all → HaveAmountTexts s lines all
all_texts s u [] [] [] undoes packed are = tt
all_texts s u [] [] (r ∷ rs) undoes packed are = absurd are
all_texts s u [] (w ∷ ws) all undoes packed are = absurd packed
all_texts s u (l ∷ ls) [] all undoes packed are = absurd packed
all_texts s u (l ∷ ls) (w ∷ ws) [] undoes packed are = absurd are
all_texts s u (l ∷ ls) (w ∷ ws) (r ∷ rs) undoes packed are = (one_text s u l w r undoes packed.0 are.0, all_texts s u ls ws rs undoes packed.1 are.1)

all_sizes : (s : PackAmounts) (lines words : List (List ℕ)) → AreWordsOf (IsAmountPacked s) lines words → HaveLength 8 words
all_sizes s [] [] packed = tt
all_sizes s [] (w ∷ ws) packed = absurd packed
all_sizes s (l ∷ ls) [] packed = absurd packed
all_sizes s (l ∷ ls) (w ∷ ws) packed = (ap length packed.0.word_is ∙ bytes_length s.endian 8 (word_of 64 packed.0.units), all_sizes s ls ws packed.1)

pub packed_amounts_unpack : PackedAmountsUnpack
packed_amounts_unpack s u lines words undoes packed = record {
  words_are = record { whole = all_sizes s lines words packed; short = omega arith; cut = sym (append-nil (joined words)) };
  texts = λ all are. all_texts s u lines words all undoes packed are;
}
