-- Words that name fields, one after another.
use Rattle.std.proofs.Common.{◌≡◌, ◌∙◌, ◌==◌, ◌≤◌, ◌-◌, ℕ, suc, false, Bor, List, [], ◌∷◌, ◌++◌, drop, get_or, length, map, min, take, ap, append_assoc, append-nil, arith, length-append, length-take, refl, subst, sym, true≢false}
use Rattle.std.proofs.Math.Seq.{take-length}
use Rattle.fixed_fields.specs.Fields.{IsFieldName, fields_of}
use Rattle.fixed_fields.specs.declared.list.Field.{Field}
use Rattle.fixed_fields.specs.declared.list.FieldList.{FieldList}
use Rattle.fixed.specs.Questions.{AreNames}

-- the first of these words name these fields, and the rest are left
pub record AreBegun (words rest : List (List ℕ)) (fields : List Field) : Type 0 where
  pub done : List (List ℕ)
  pub split : words ≡ done ++ rest
  pub are_names : AreNames done fields

names_added : (words : List (List ℕ)) (fields : List Field) (word : List ℕ) (field : Field) → AreNames words fields → IsFieldName word field
    → AreNames (words ++ word ∷ []) (fields ++ field ∷ [])
names_added [] [] word field names is = (is, tt)
names_added [] (first ∷ fields) word field names is = absurd names
names_added (first ∷ words) [] word field names is = absurd names
names_added (first ∷ words) (one ∷ fields) word field names is = (names.0, names_added words fields word field names.1 is)

names_count : (words : List (List ℕ)) (fields : List Field) → AreNames words fields → length words ≡ length fields
names_count [] [] names = refl
names_count [] (first ∷ fields) names = absurd names
names_count (first ∷ words) [] names = absurd names
names_count (first ∷ words) (one ∷ fields) names = ap suc (names_count words fields names.1)

name_within : (done : List (List ℕ)) (word : List ℕ) (more : List (List ℕ)) (fields : List Field) → AreNames (done ++ word ∷ more) fields
    → (field : Field) × IsFieldName word field
name_within [] word more [] names = absurd names
name_within [] word more (field ∷ fields) names = (field, names.0)
name_within (first ∷ done) word more [] names = absurd names
name_within (first ∷ done) word more (one ∷ fields) names = name_within done word more fields names.1

pub begun_none : (words : List (List ℕ)) (fields : List Field) → fields ≡ [] → AreBegun words words fields
begun_none words fields none = subst (λ (f : List Field). AreBegun words words f) (sym none) record { done = []; split = refl; are_names = tt }

pub begun_more : (words rest : List (List ℕ)) (word : List ℕ) (more : List (List ℕ)) (fields new : List Field) (field : Field) → AreBegun words rest fields → rest ≡ word ∷ more
    → IsFieldName word field → new ≡ fields ++ field ∷ [] → AreBegun words more new
begun_more words rest word more fields new field begun is named e = record {
  done = begun.done ++ word ∷ [];
  split = begun.split ∙ ap (λ (r : List (List ℕ)). begun.done ++ r) is ∙ sym (append_assoc begun.done (word ∷ []) more);
  are_names = subst (λ (f : List Field). AreNames (begun.done ++ word ∷ []) f) (sym e) (names_added begun.done fields word field begun.are_names named);
}

pub begun_end : (words rest : List (List ℕ)) (fields : List Field) → AreBegun words rest fields → rest ≡ [] → AreNames words fields
begun_end words rest fields begun none =
    subst (λ (w : List (List ℕ)). AreNames w fields) (sym (begun.split ∙ ap (λ (r : List (List ℕ)). begun.done ++ r) none ∙ append-nil begun.done)) begun.are_names

pub begun_bad : (words rest : List (List ℕ)) (word : List ℕ) (more : List (List ℕ)) (fields all : List Field) → AreBegun words rest fields → rest ≡ word ∷ more
    → ((field : Field) → IsFieldName word field → ⊥) → AreNames words all → ⊥
begun_bad words rest word more fields all begun is none names =
    let found : (field : Field) × IsFieldName word field = name_within begun.done word more all
    (subst (λ (w : List (List ℕ)). AreNames w all) (begun.split ∙ ap (λ (r : List (List ℕ)). begun.done ++ r) is) names) in
    none found.0 found.1

pub begun_full : (words rest : List (List ℕ)) (word : List ℕ) (more : List (List ℕ)) (fields all : List Field) → AreBegun words rest fields → rest ≡ word ∷ more
    → length fields ≡ 32 → length all ≤ 32 → AreNames words all → ⊥
begun_full words rest word more fields all begun is full most names =
    omega (arith, names_count words all names, names_count begun.done fields begun.are_names, ap length begun.split, length-append begun.done rest, ap length is, full, most)

-- the first of some words, and the rest
pub rest_is : (rest : List (Bor (List ℕ))) (any : Bor (List ℕ)) → (length rest == 0) ≡ false
    → map (λ s. s.now) rest ≡ (get_or rest 0 any).now ∷ map (λ s. s.now) (take (length rest - 1) (drop 1 rest))
rest_is [] any e = absurd (true≢false e)
rest_is (first ∷ rest) any e =
    let less : length (first ∷ rest) - 1 ≡ length rest = omega arith in
    ap (λ (l : List (Bor (List ℕ))). first.now ∷ map (λ s. s.now) l) (sym (ap (λ n. take n rest) less ∙ take-length rest))

pub most : (list : FieldList) → length (fields_of list) ≤ 32
most list = omega (arith, length-take (min list.count 32) list.items)
