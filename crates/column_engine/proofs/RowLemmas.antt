-- The places in a record, its fields, and the text of a field, byte by byte.
use Rattle.std.proofs.Common.{◌≡◌, ◌==◌, ◌<◌, ◌≤◌, ◌+◌, ◌-◌, ℕ, suc, List, [], ◌∷◌, ◌++◌, Bool, true, false, length, take, drop, get_or, refl, sym, ap, ◌∙◌, append_assoc, append-nil, arith, if◌then◌else◌, add-one, drop-cons, take-suc, ⊎_elim}
use Rattle.std.proofs.lemmas.Bool.{cases_lt, eqb-true}
use Rattle.std.proofs.lemmas.List.{take_all, drop_all, get_or-take, length-take, length-drop, take_rest}
use Rattle.csv.specs.Writing.{default_writer, escaped}
use Rattle.line_engine.specs.Lines.{onto_first}
use Rattle.column_engine.specs.Rows.{IsUnended, content, ends_field, ends_record, is_dropped, place_after, places_after, raw_fields, within_after}
use Rattle.column_engine.specs.declared.place.Place.{Place}
use Rattle.column_engine.specs.declared.place.Place.TheVariants.{Inside, Quoted, Start}

pub places_append : (d : ℕ) (place : Place) (xs ys : List ℕ) → places_after d place (xs ++ ys) ≡ places_after d (places_after d place xs) ys
unfolding places_after
places_append d place [] ys = refl
places_append d place (x ∷ xs) ys = places_append d (place_after d place x) xs ys

pub unended_append : (d : ℕ) (place : Place) (xs ys : List ℕ) → IsUnended d place xs → IsUnended d (places_after d place xs) ys → IsUnended d place (xs ++ ys)
unfolding places_after IsUnended
unended_append d place [] ys first next = next
unended_append d place (x ∷ xs) ys first next = (first.0, unended_append d (place_after d place x) xs ys first.1 next)

pub unended_none : (d : ℕ) (place : Place) → IsUnended d place []
unfolding IsUnended
unended_none d place = tt

pub places_none : (d : ℕ) (place : Place) → places_after d place [] ≡ place
unfolding places_after
places_none d place = refl

pub places_one : (d : ℕ) (place : Place) (x : ℕ) → places_after d place (x ∷ []) ≡ place_after d place x
unfolding places_after
places_one d place x = refl

pub unended_one : (d : ℕ) (place : Place) (x : ℕ) → ends_record place x ≡ false → IsUnended d place (x ∷ [])
unfolding IsUnended
unended_one d place x nay = (nay, tt)

-- the place after one more byte of a record
pub places_more : (d : ℕ) (from place : Place) (xs : List ℕ) (k : ℕ) → k < length xs → place ≡ places_after d from (take k xs)
    → place_after d place (get_or xs k 0) ≡ places_after d from (take (k + 1) xs)
places_more d from place xs k low is =
    rw (add-one, take-suc xs k 0 low, places_append d from (take k xs) (get_or xs k 0 ∷ []), places_one, is) refl

pub unended_more : (d : ℕ) (from place : Place) (xs : List ℕ) (k : ℕ) → k < length xs → place ≡ places_after d from (take k xs)
    → ends_record place (get_or xs k 0) ≡ false → IsUnended d from (take k xs) → IsUnended d from (take (k + 1) xs)
unended_more d from place xs k low is nay before =
    rw (add-one, take-suc xs k 0 low) (unended_append d from (take k xs) (get_or xs k 0 ∷ []) before (unended_one d _ _ (rw (← is) nay)))

-- ---- fields
-- puts `xs` at the front of the first field
pub onto : List ℕ → List (List ℕ) → List (List ℕ)
onto xs [] = []
onto xs (f ∷ fs) = (xs ++ f) ∷ fs

onto_none : (fs : List (List ℕ)) → onto [] fs ≡ fs
unfolding onto
onto_none [] = refl
onto_none (f ∷ fs) = refl

onto_one : (xs : List ℕ) (b : ℕ) (fs : List (List ℕ)) → onto xs (onto_first b fs) ≡ onto (xs ++ b ∷ []) fs
unfolding onto
onto_one xs b [] = refl
onto_one xs b (f ∷ fs) = ap (λ l. l ∷ fs) (sym (append_assoc xs (b ∷ []) f))

pub fields_from : (d : ℕ) (place : Place) (body : List ℕ) → raw_fields d place body ≡ onto (take 0 body) (raw_fields d place (drop 0 body))
fields_from d place body = sym (onto_none (raw_fields d place body))

pub raw_on : (d : ℕ) (place : Place) (b : ℕ) (rest : List ℕ) → ends_field d place b ≡ false → raw_fields d place (b ∷ rest) ≡ onto_first b (raw_fields d (within_after place b) rest)
unfolding raw_fields
raw_on d place b rest nay = rw nay refl

pub raw_end : (d : ℕ) (place : Place) (b : ℕ) (rest : List ℕ) → ends_field d place b ≡ true → raw_fields d place (b ∷ rest) ≡ [] ∷ raw_fields d Start rest
unfolding raw_fields
raw_end d place b rest yea = rw yea refl

pub raw_none : (d : ℕ) (place : Place) → raw_fields d place [] ≡ [] ∷ []
unfolding raw_fields
raw_none d place = refl

pub fields_more : (d : ℕ) (place : Place) (body : List ℕ) (k : ℕ) → k < length body → ends_field d place (get_or body k 0) ≡ false
    → raw_fields d Start body ≡ onto (take k body) (raw_fields d place (drop k body))
    → raw_fields d Start body ≡ onto (take (k + 1) body) (raw_fields d (within_after place (get_or body k 0)) (drop (k + 1) body))
fields_more d place body k low nay before =
    rw (add-one, take-suc body k 0 low) (before
    ∙ ap (λ l. onto (take k body) (raw_fields d place l)) (drop-cons body k 0 low)
    ∙ ap (onto (take k body)) (raw_on d place (get_or body k 0) (drop (suc k) body) nay)
    ∙ onto_one (take k body) (get_or body k 0) (raw_fields d (within_after place (get_or body k 0)) (drop (suc k) body)))

pub fields_end : (d : ℕ) (place : Place) (body : List ℕ) (k : ℕ) → k < length body → ends_field d place (get_or body k 0) ≡ true
    → raw_fields d Start body ≡ onto (take k body) (raw_fields d place (drop k body))
    → raw_fields d Start body ≡ take k body ∷ raw_fields d Start (drop (k + 1) body)
unfolding onto
fields_end d place body k low yea before =
    rw add-one (before
    ∙ ap (λ l. onto (take k body) (raw_fields d place l)) (drop-cons body k 0 low)
    ∙ ap (onto (take k body)) (raw_end d place (get_or body k 0) (drop (suc k) body) yea)
    ∙ ap (λ l. l ∷ raw_fields d Start (drop (suc k) body)) (append-nil (take k body)))

pub fields_last : (d : ℕ) (place : Place) (body : List ℕ) (k : ℕ) → length body ≤ k
    → raw_fields d Start body ≡ onto (take k body) (raw_fields d place (drop k body)) → raw_fields d Start body ≡ body ∷ []
unfolding onto
fields_last d place body k high before =
    before ∙ ap (λ l. onto (take k body) (raw_fields d place l)) (drop_all k body high)
    ∙ ap (onto (take k body)) (raw_none d place)
    ∙ ap (λ l. l ∷ []) (append-nil (take k body) ∙ take_all k body high)

pub first_field : (d : ℕ) (rest : List ℕ) (r : ℕ) → r ≤ length rest → (r ≡ length rest → raw_fields d Start rest ≡ rest ∷ [])
    → (r < length rest → raw_fields d Start rest ≡ take r rest ∷ raw_fields d Start (drop (r + 1) rest))
    → (others : List (List ℕ)) × (raw_fields d Start rest ≡ take r rest ∷ others)
first_field d rest r within last more =
    ⊎_elim
    (λ (low : r < length rest). (raw_fields d Start (drop (r + 1) rest), more low))
    (λ (high : length rest ≤ r). ([], last (omega arith) ∙ ap (λ l. l ∷ []) (sym (take_all r rest high))))
    (cases_lt r (length rest))

-- one more field after the first fields
pub cut_more : (all some more others : List (List ℕ)) (raw : List ℕ) → all ≡ some ++ more → more ≡ raw ∷ others → all ≡ (some ++ raw ∷ []) ++ others
cut_more all some more others raw before is = before ∙ ap (λ l. some ++ l) is ∙ sym (append_assoc some (raw ∷ []) others)

-- the bytes after a field and its delimiter
pub rest_is : (rest : List ℕ) (end : ℕ) → take (length rest - (end + 1)) (drop (end + 1) rest) ≡ drop (end + 1) rest
rest_is rest end = take_rest rest (end + 1)

pub rest_length : (rest : List ℕ) (end : ℕ) → end < length rest → length (take (length rest - (end + 1)) (drop (end + 1) rest)) + end + 1 ≡ length rest
rest_length rest end low = omega (arith, low, ap length (rest_is rest end), length-drop (end + 1) rest)

-- ---- the text of a field
content_one : (place : Place) (b : ℕ) (rest : List ℕ) (drops : Bool) → is_dropped place b ≡ drops
    → content place (b ∷ rest) ≡ (if drops then [] else b ∷ []) ++ content (within_after place b) rest
unfolding content
content_one place b rest true yea = rw yea refl
content_one place b rest false nay = rw nay refl

content_none : (place : Place) → content place [] ≡ []
unfolding content
content_none place = refl

kept_or_not : (drops : Bool) (place : Place) (b : ℕ) (rest : List ℕ) → length (content place rest) ≤ length rest
    → length ((if drops then [] else b ∷ []) ++ content place rest) ≤ length (b ∷ rest)
kept_or_not true place b rest short = omega (arith, short)
kept_or_not false place b rest short = omega (arith, short)

-- the text of a field is at most as long as its bytes
pub content_short : (place : Place) (raw : List ℕ) → length (content place raw) ≤ length raw
content_short place [] = rw (content_none place) (omega arith)
content_short place (b ∷ rest) = rw (content_one place b rest (is_dropped place b) refl)
    (kept_or_not (is_dropped place b) (within_after place b) b rest (content_short (within_after place b) rest))

pub content_more : (place : Place) (raw text : List ℕ) (k : ℕ) → k < length raw → content Start raw ≡ text ++ content place (drop k raw)
    → content Start raw ≡ text ++ (if is_dropped place (get_or raw k 0) then [] else get_or raw k 0 ∷ []) ++ content (within_after place (get_or raw k 0)) (drop (k + 1) raw)
content_more place raw text k low before =
    rw add-one (before ∙ ap (λ l. text ++ content place l) (drop-cons raw k 0 low)
    ∙ ap (λ l. text ++ l) (content_one place (get_or raw k 0) (drop (suc k) raw) (is_dropped place (get_or raw k 0)) refl)
    ∙ sym (append_assoc text _ _))

pub content_last : (place : Place) (raw text : List ℕ) (k : ℕ) → length raw ≤ k → content Start raw ≡ text ++ content place (drop k raw) → text ≡ content Start raw
content_last place raw text k high before =
    sym (before ∙ ap (λ l. text ++ content place l) (drop_all k raw high) ∙ ap (λ l. text ++ l) (content_none place) ∙ append-nil text)

-- the text of a field after an unquoted start is its bytes
inside : (xs : List ℕ) → content Inside xs ≡ xs
unfolding content
inside [] = refl
inside (x ∷ xs) = ap (λ l. x ∷ l) (inside xs)

pub plain_none : content Start [] ≡ []
unfolding content
plain_none = refl

pub plain_first : (raw : List ℕ) → (get_or raw 0 0 == 34) ≡ false → content Start raw ≡ raw
unfolding content
plain_first [] nay = refl
plain_first (x ∷ xs) nay = rw nay (ap (λ l. x ∷ l) (inside xs))

-- the text of a quoted field without inner quotes is the bytes between its quotes
between : (xs : List ℕ) → ((j : ℕ) → j < length xs → (get_or xs j 0 == 34) ≡ false) → content Quoted (xs ++ 34 ∷ []) ≡ xs
unfolding content
between [] nay = refl
between (x ∷ xs) nay = rw (nay 0 (omega arith)) (ap (λ l. x ∷ l) (between xs (λ j low. nay (suc j) (omega arith))))

pub plain_quoted : (xs : List ℕ) → ((j : ℕ) → j < length xs → (get_or xs j 0 == 34) ≡ false) → content Start (34 ∷ xs ++ 34 ∷ []) ≡ xs
unfolding content
plain_quoted xs nay = between xs nay

pub from_never : (b : Bool) → (b ≡ true → ⊥) → b ≡ false
from_never true never = absurd (never refl)
from_never false never = refl

pub plain_between : (rest : List ℕ) (k : ℕ) → k + 1 ≡ length rest → (get_or rest k 0 == 34) ≡ true → ((j : ℕ) → 0 ≤ j → j < k → (get_or rest j 0 == 34) ≡ true → ⊥)
    → content Start (34 ∷ rest) ≡ take k rest
plain_between rest k whole at none =
    let last : get_or rest k 0 ≡ 34 = eqb-true (get_or rest k 0) 34 at in
    let all : rest ≡ take k rest ++ 34 ∷ [] = sym (take_all (suc k) rest (omega arith)) ∙ take-suc rest k 0 (omega arith) ∙ ap (λ b. take k rest ++ b ∷ []) last in
    ap (λ l. content Start (34 ∷ l)) all ∙ plain_quoted (take k rest) (λ j low.
    let short : j < k = omega (arith, low, length-take k rest) in
    rw (get_or-take k rest j 0 short) (from_never _ (none j (omega arith) short)))

pub plain_empty : (raw : List ℕ) → (length raw == 0) ≡ true → raw ≡ content Start raw
plain_empty [] e = sym plain_none
plain_empty (x ∷ xs) e = absurd (omega (arith, eqb-true (length (x ∷ xs)) 0 e))

pub between_raw : (raw rest : List ℕ) (k : ℕ) → rest ≡ drop 1 raw → 0 < length raw → get_or raw 0 0 ≡ 34 → k + 1 ≡ length rest → (get_or rest k 0 == 34) ≡ true
    → ((j : ℕ) → 0 ≤ j → j < k → (get_or rest j 0 == 34) ≡ true → ⊥) → take k rest ≡ content Start raw
between_raw raw rest k is some first whole at none =
    let all : raw ≡ 34 ∷ rest = drop-cons raw 0 0 some ∙ ap (λ b. b ∷ drop 1 raw) first ∙ ap (λ l. 34 ∷ l) (sym is) in
    sym (ap (content Start) all ∙ plain_between rest k whole at none)

-- ---- a text in quotes
escaped_one : (d b : ℕ) (rest : List ℕ) (same : Bool) → (b == 34) ≡ same
    → escaped (record default_writer { delimiter = d }) (b ∷ rest) ≡ (if same then 34 ∷ b ∷ [] else b ∷ []) ++ escaped (record default_writer { delimiter = d }) rest
unfolding escaped
escaped_one d b rest true e = rw e refl
escaped_one d b rest false e = rw e refl

pub escaped_more : (d : ℕ) (all shown text : List ℕ) (k : ℕ) → k < length text
    → all ≡ shown ++ escaped (record default_writer { delimiter = d }) (drop k text)
    → all ≡ (shown ++ (if get_or text k 0 == 34 then 34 ∷ get_or text k 0 ∷ [] else get_or text k 0 ∷ [])) ++ escaped (record default_writer { delimiter = d }) (drop (k + 1) text)
escaped_more d all shown text k low before =
    rw add-one (before ∙ ap (λ l. shown ++ escaped (record default_writer { delimiter = d }) l) (drop-cons text k 0 low)
    ∙ ap (λ l. shown ++ l) (escaped_one d (get_or text k 0) (drop (suc k) text) (get_or text k 0 == 34) refl)
    ∙ sym (append_assoc shown _ _))

pub escaped_last : (d : ℕ) (all shown text : List ℕ) (k : ℕ) → length text ≤ k → all ≡ shown ++ escaped (record default_writer { delimiter = d }) (drop k text) → all ≡ shown
unfolding escaped
escaped_last d all shown text k high before = before ∙ ap (λ l. shown ++ escaped (record default_writer { delimiter = d }) l) (drop_all k text high) ∙ append-nil shown
