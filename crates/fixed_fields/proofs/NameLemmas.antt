-- The colon before the name of a format.
use Rattle.std.proofs.Common.{◌≡◌, ◌∙◌, ◌<◌, ◌-◌, ℕ, suc, List, ◌∷◌, ◌++◌, get_or, length, take, drop, ap, arith, refl, sym, length-append, drop-cons}
use Rattle.std.proofs.Math.Seq.{drop-append_seam, take-append_seam, take-length}
use Rattle.std.proofs.lemmas.List.{take-append-drop}
use Rattle.fixed_fields.specs.Fields.{IsFieldAt, IsFieldName}
use Rattle.fixed_fields.specs.declared.list.Field.{Field}

-- the text before the colon
pub front_is : (word : List ℕ) (index : ℕ) (field : Field) (at : IsFieldAt word index field) → take index word ≡ at.named.bits
front_is word index field at =
    ap (λ n. take n word) at.index_is ∙ ap (take (length at.named.bits)) at.named.word_is ∙ take-append_seam at.named.bits (58 ∷ at.named.name)

-- the colon and the text after it
pub back_is : (word : List ℕ) (index : ℕ) (field : Field) (at : IsFieldAt word index field) → drop index word ≡ 58 ∷ at.named.name
back_is word index field at =
    ap (λ n. drop n word) at.index_is ∙ ap (drop (length at.named.bits)) at.named.word_is ∙ drop-append_seam at.named.bits (58 ∷ at.named.name)

-- a field is named by the colon behind its bits, which is within the word
pub at_colon : (word : List ℕ) (field : Field) (named : IsFieldName word field) → IsFieldAt word (length named.bits) field
at_colon word field named = record { named = named; index_is = refl }

pub within : (word : List ℕ) (field : Field) (named : IsFieldName word field) → length named.bits < length word
within word field named = omega (arith, ap length named.word_is, length-append named.bits (58 ∷ named.name))

-- all that comes after the colon
pub name_after : (back name : List ℕ) → back ≡ 58 ∷ name → take (length back - 1) (drop 1 back) ≡ name
name_after back name e = ap (λ (b : List ℕ). take (length b - 1) (drop 1 b)) e ∙ ap (λ n. take n name) (omega arith) ∙ take-length name

-- a word is what stands before and after a colon in it
pub word_is : (word front back : List ℕ) (index : ℕ) → index < length word → get_or word index 0 ≡ 58 → front ≡ take index word → back ≡ drop index word
    → word ≡ front ++ 58 ∷ take (length back - 1) (drop 1 back)
word_is word front back index within colon f b =
    let rest : List ℕ = drop (suc index) word in
    let begun : back ≡ 58 ∷ rest = b ∙ drop-cons word index 0 within ∙ ap (λ n. n ∷ rest) colon in
    sym (take-append-drop index word) ∙ ap (λ t. t ++ drop index word) (sym f) ∙ ap (λ t. front ++ t) (sym b ∙ begun)
    ∙ ap (λ t. front ++ 58 ∷ t) (sym (name_after back rest begun))
