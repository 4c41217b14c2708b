-- A word that is unpacked has one line.
use Rattle.std.proofs.Common.{◌≡◌, ◌∙◌, ◌∷◌, ◌++◌, [], List, ℕ, Option, Some, None, refl, sym, ap}
use Rattle.std.specs.Prelude.{is_some}
use Rattle.fixed_command.specs.Lemmas.ReplyLemmas.{reply_one}
use Rattle.line_engine.specs.AnswerText.{AnswerText}
use Rattle.run_engine.specs.Reply.{reply_of}
use Rattle.fixed_pack.specs.Floats.{refusal_text}
use Rattle.fixed_pack.specs.Unpack.{IsWordLine, count_of, for_words, word_text}
use Rattle.fixed_pack.specs.declared.float_words.WordRefusal.{WordRefusal}
use Rattle.fixed_pack.specs.declared.unpack.UnpackRule.{UnpackRule}

is_fault : (text : List ℕ) (cause : Option WordRefusal) → (reply_of refusal_text text cause).fault ≡ is_some cause
is_fault text None = refl
is_fault text (Some why) = refl

pub line_one : (r : UnpackRule) (word a b : List ℕ) (c d : Option WordRefusal) → IsWordLine r word a c
    → IsWordLine r word b d → (a ≡ b) × (is_some c ≡ is_some d)
line_one r word a b c d p q =
    let x : AnswerText = reply_of refusal_text p.text c in
    let y : AnswerText = reply_of refusal_text q.text d in
    let same : x ≡ y = reply_one (for_words r.settings) (word_text r.endian (count_of r) word) x y p.reply q.reply in (
      p.line_is ∙ (ap (λ (t : AnswerText). t.text ++ 10 ∷ []) same ∙ sym q.line_is),
      sym (is_fault p.text c) ∙ (ap (λ (t : AnswerText). t.fault) same ∙ is_fault q.text d),
    )
