-- The names of a header, and the columns that operands mean.
use Rattle.std.proofs.Common.{◌≡◌, ◌≢◌, ◌<◌, ◌≤◌, ◌+◌, ℕ, zero, suc, List, [], ◌∷◌, ◌++◌, Bool, true, false, length, take, get_or, refl, sym, ap, ◌∙◌, inl, inr, ⊎_elim, arith, subst, set, take-suc, length-append}
use Rattle.std.proofs.lemmas.Bool.{cases_lt}
use Rattle.std.proofs.lemmas.List.{get_or_append_left}
use Rattle.std.proofs.Math.Seq.{get_or-append_seam, take-suc-set}
use Rattle.line_engine.specs.Lines.{onto_first}
use Rattle.column_engine.specs.Answers.{AnyMissing, AreFound, HasNoNamed, IsFirstNamed, IsFound, IsMissing}
use Rattle.column_engine.specs.Rows.{ends_field, raw_fields, within_after}
use Rattle.column_engine.specs.declared.columns.Column.{Column}
use Rattle.column_engine.specs.declared.columns.Range.{Range}
use Rattle.column_engine.specs.declared.place.Place.{Place}

-- every record has a field
onto_length : (b : ℕ) (fs : List (List ℕ)) → length (onto_first b fs) ≡ length fs
onto_length b [] = refl
onto_length b (f ∷ fs) = refl

some_by : (d : ℕ) (place : Place) (x : ℕ) (xs : List ℕ) (ends : Bool) → ends_field d place x ≡ ends → 0 < length (raw_fields d (within_after place x) xs) → 0 < length (raw_fields d place (x ∷ xs))
unfolding raw_fields
some_by d place x xs true e later = rw e (omega arith)
some_by d place x xs false e later = rw e (rw (onto_length x (raw_fields d (within_after place x) xs)) later)

pub fields_some : (d : ℕ) (place : Place) (xs : List ℕ) → 0 < length (raw_fields d place xs)
unfolding raw_fields
fields_some d place [] = omega arith
fields_some d place (x ∷ xs) = some_by d place x xs (ends_field d place x) refl (fields_some d (within_after place x) xs)

-- adding a different name keeps `name` absent
pub named_more : (name x : List ℕ) (some : List (List ℕ)) → HasNoNamed name some → x ≢ name → HasNoNamed name (some ++ x ∷ [])
named_more name x some before other k low =
    ⊎_elim
    (λ (early : k < length some). λ e. before k early (sym (get_or_append_left some (x ∷ []) [] k early) ∙ e))
    (λ (late : length some ≤ k).
    let here : length some ≡ k = omega (arith, low, length-append some (x ∷ [])) in
    λ e. other (sym (get_or-append_seam some x [] []) ∙ ap (λ n. get_or (some ++ x ∷ []) n []) here ∙ e))
    (cases_lt k (length some))

pub named_at : (names some others : List (List ℕ)) (x name : List ℕ) (column : ℕ) → names ≡ some ++ x ∷ others → column ≡ length some → HasNoNamed name some → x ≡ name → IsFirstNamed name names column
named_at names some others x name column cut is before same = record {
  there = omega (arith, is, ap length cut, length-append some (x ∷ others));
  named = ap (λ l. get_or l column []) cut ∙ ap (λ n. get_or (some ++ x ∷ others) n []) is ∙ get_or-append_seam some x others [] ∙ same;
  first = λ k low.
      let early : k < length some = omega (arith, low, is) in
      λ e. before k early (sym (get_or_append_left some (x ∷ others) [] k early) ∙ ap (λ l. get_or l k []) (sym cut) ∙ e);
}

-- ---- what operands mean
found_append : (names : List (List ℕ)) (columns : List Column) (asked : List Range) (column : Column) (range : Range)
    → AreFound names columns asked → IsFound names column range → AreFound names (columns ++ column ∷ []) (asked ++ range ∷ [])
found_append names [] [] column range before one = (one, tt)
found_append names [] (r ∷ asked) column range before one = absurd before
found_append names (c ∷ columns) [] column range before one = absurd before
found_append names (c ∷ columns) (r ∷ asked) column range before one = (before.0, found_append names columns asked column range before.1 one)

pub found_more : (names : List (List ℕ)) (columns : List Column) (asked : List Range) (column : Column) (range : Range) (k : ℕ) → k < length columns → k < length asked
    → column ≡ get_or columns k column → AreFound names (take k columns) (take k asked) → IsFound names column range
    → AreFound names (take (k + 1) columns) (take (k + 1) (set asked k range))
found_more names columns asked column range k low short is before one =
    let next : suc k ≡ k + 1 = omega arith in
    subst (λ n. AreFound names (take n columns) (take n (set asked k range))) next
    (rw (take-suc columns k column low, take-suc-set asked k range short, ← is) (found_append names (take k columns) (take k asked) column range before one))

pub missing_at : (names : List (List ℕ)) (columns : List Column) (column : Column) (k : ℕ) → k < length columns → column ≡ get_or columns k column → IsMissing names column → AnyMissing names columns
missing_at names [] column k low is one = absurd (omega arith)
missing_at names (c ∷ columns) column zero low is one = inl (subst (IsMissing names) is one)
missing_at names (c ∷ columns) column (suc k) low is one = inr (missing_at names columns column k (omega arith) is one)
