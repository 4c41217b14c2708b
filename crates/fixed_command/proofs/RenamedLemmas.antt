-- Lines of named literals with other names for their formats.
use Rattle.std.proofs.Common.{◌≡◌, ◌∙◌, ◌<◌, ℕ, List, [], ◌∷◌, ◌++◌, length, refl, sym, ap, subst, inl, inr, arith, append-nil, append_assoc}
use Rattle.fixed_bits.specs.Formats.{FormatParts, IsTypeFormat}
use Rattle.fixed_names.proofs.Public.{name_one}
use Rattle.fixed_names.specs.Names.{IsName}
use Rattle.fixed_respell.specs.LineWords.{HasWords, space, spaced}
use Rattle.fixed_respell.specs.Lemmas.LineWordLemmas.{not_missing, words_one}
use Rattle.fixed_respell.specs.Split.{count_of}
use Rattle.fixed_respell.specs.Words.{format_text}
use Rattle.line_engine.specs.Lines.{lines}
use Rattle.fixed_command.specs.Renamed.{AreRenamed, HasTypeName, IsRenamedLine}

-- ---- a line
pub no_type : (word : List ℕ) (g : FormatParts) → IsName word g → (IsTypeFormat g.width g.frac → ⊥) → (f : FormatParts) → IsName word f → IsTypeFormat f.width f.frac → ⊥
no_type word g named none f name is = none (subst (λ h. IsTypeFormat h.width h.frac) (name_one word f g name named) is)

pub renamed_by : (line : List ℕ) (words : List (List ℕ)) (word renamed : List ℕ) (f : FormatParts) → HasWords line words word → length words ≡ 3 → IsName word f → IsTypeFormat f.width f.frac → renamed ≡ spaced words (format_text f) → IsRenamedLine line renamed
renamed_by line words word renamed f has three name is text = inl (record {
  format = f;
  named = record { words = words; three = three; word = word; has = has; name = name; format = is };
  text = text;
})

pub kept_by : (line : List ℕ) (words : List (List ℕ)) (word : List ℕ) → HasWords line words word → length words ≡ 3 → ((f : FormatParts) → IsName word f → IsTypeFormat f.width f.frac → ⊥) → IsRenamedLine line line
kept_by line words word has three none = inr (never, refl)
  where
    never : (f : FormatParts) → HasTypeName line f → ⊥
    never f x =
        let same = words_one line x.words words x.word word x.has has (x.three ∙ sym three) in
        none f (subst (λ w. IsName w f) same.rests x.name) x.format

pub kept_few : (line : List ℕ) → count_of space line < 3 → IsRenamedLine line line
kept_few line few = inr (λ f x. not_missing 3 line x.words x.word x.has x.three few, refl)

-- ---- a text
pub text_more : (all rest after : List (List ℕ)) (line old mid new renamed : List ℕ) → ((m : List ℕ) → AreRenamed rest m → AreRenamed all (old ++ m)) → rest ≡ line ∷ after → IsRenamedLine line renamed → mid ≡ old ++ renamed → new ≡ mid ++ 10 ∷ [] → (m : List ℕ) → AreRenamed after m → AreRenamed all (new ++ m)
text_more all rest after line old mid new renamed before cut is e f m are =
    let tail : List ℕ = renamed ++ 10 ∷ m in
    let step : AreRenamed (line ∷ after) tail = (renamed, m, is, are, refl) in
    let whole : AreRenamed all (old ++ tail) = before tail (subst (λ r. AreRenamed r tail) (sym cut) step) in
    let end : List ℕ = 10 ∷ [] in
    let same : old ++ tail ≡ new ++ m = sym (append_assoc old renamed (10 ∷ m)) ∙ (ap (λ t. t ++ 10 ∷ m) (sym e) ∙ (sym (append_assoc mid end m) ∙ ap (λ t. t ++ m) (sym f))) in
    subst (AreRenamed all) same whole

nil_of : (xs : List ℕ) → length xs ≡ 0 → xs ≡ []
nil_of [] e = refl
nil_of (x ∷ xs) e = absurd (omega (arith, e))

pub text_all : (all : List (List ℕ)) (rest text : List ℕ) → length rest ≡ 0 → ((m : List ℕ) → AreRenamed (lines rest) m → AreRenamed all (text ++ m)) → AreRenamed all text
text_all all rest text none before =
    let end : AreRenamed (lines rest) [] = subst (λ r. AreRenamed (lines r) []) (sym (nil_of rest none)) refl in
    subst (AreRenamed all) (append-nil text) (before [] end)
