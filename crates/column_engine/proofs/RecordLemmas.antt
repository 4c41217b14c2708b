-- The records of a text are those that the kit's CSV reader reads.
use Rattle.std.proofs.Common.{◌≡◌, ◌==◌, ◌||◌, ℕ, List, [], ◌∷◌, ◌++◌, Bool, true, false, refl, sym, ap, ◌∙◌, subst, append_assoc, append-nil, arith, if◌then◌else◌, map, length, inl, inr, ◌⊎◌, ⊎_elim}
use Rattle.std.proofs.lemmas.Bool.{eqb-true, false≢true}
use Rattle.std.proofs.lemmas.List.{nil_from_length}
use Rattle.std.specs.Prelude.{◌≢◌, Some, None}
use Rattle.csv.specs.Machine.{field_after, fields_after, in_field, is_end, next_record, step}
use Rattle.csv.specs.Reading.{AreRecords, Reached}
use Rattle.csv.specs.declared.parser.Action.{Action}
use Rattle.csv.specs.declared.parser.Action.TheVariants as act
use Rattle.csv.specs.declared.parser.State.{State}
use Rattle.csv.specs.declared.parser.State.TheVariants as st
use Rattle.line_engine.specs.Lines.{onto_first}
use Rattle.column_engine.specs.Laws.{AreRows, IsDelimiter, RecordsAreTheKits, reads_with, records_of}
use Rattle.column_engine.specs.Rows.{IsEnded, IsLast, IsUnended, Row, content, ends_field, ends_record, field_texts, is_dropped, place_after, places_after, raw_fields, rows_text, within_after}
use Rattle.column_engine.specs.declared.place.Place.{Place}
use Rattle.column_engine.specs.declared.place.Place.TheVariants.{AfterQuote, Inside, Quoted, Start}
use Rattle.column_engine.proofs.RowLemmas.{from_never, raw_end, raw_none, raw_on}

-- the place in a record and the reader's state that stand for the same
pub Agrees : Place → State → Type 0
Agrees Start s = s ≡ st.StartField
Agrees Inside s = s ≡ st.InField
Agrees Quoted s = s ≡ st.InQuoted
Agrees AfterQuote s = s ≡ st.AfterQuote

-- ---- what the reader does at a byte of a record
start_agrees : Agrees Start st.StartField
unfolding Agrees
start_agrees = refl

pub record Ends (d : ℕ) (p : Place) (s : State) (b : ℕ) : Type 0 where
  pub ends : ends_field d p b ≡ true
  pub step_is : step (reads_with d) s b ≡ (st.StartField, act.EndField)

pub record Drops (d : ℕ) (p : Place) (s : State) (b : ℕ) : Type 0 where
  pub goes_on : ends_field d p b ≡ false
  pub dropped : is_dropped p b ≡ true
  pub next : State
  pub agrees : Agrees (within_after p b) next
  pub step_is : step (reads_with d) s b ≡ (next, act.Skip)

pub record Keeps (d : ℕ) (p : Place) (s : State) (b : ℕ) : Type 0 where
  pub goes_on : ends_field d p b ≡ false
  pub kept : is_dropped p b ≡ false
  pub next : State
  pub agrees : Agrees (within_after p b) next
  pub step_is : step (reads_with d) s b ≡ (next, act.Copy)

pub Steps : ℕ → Place → State → ℕ → Type 0
Steps d p s b = Ends d p s b ⊎ (Drops d p s b ⊎ Keeps d p s b)

no_end : (x y : Bool) → (x || y) ≡ false → (x ≡ false) × (y ≡ false)
no_end true y e = absurd (false≢true (sym e))
no_end false true e = absurd (false≢true (sym e))
no_end false false e = (refl, refl)

no_delimiter : (d b : ℕ) → d ≢ 34 → (b == 34) ≡ true → (b == d) ≡ false
no_delimiter d b other is = from_never (b == d) (λ same. other (sym (eqb-true b d same) ∙ eqb-true b 34 is))

-- a byte inside an unquoted field
field_steps : (d b : ℕ) (x : Bool) → (b == d) ≡ x → (b == 10) ≡ false → (b == 13) ≡ false → Ends d Inside st.InField b ⊎ (Drops d Inside st.InField b ⊎ Keeps d Inside st.InField b)
unfolding Agrees
field_steps d b true e n r = inl (record { ends = e; step_is = rw e refl })
field_steps d b false e n r = inr (inr (record { goes_on = e; kept = refl; next = st.InField; agrees = refl; step_is = rw (e, n, r) refl }))

start_steps : (d b : ℕ) (q x : Bool) → d ≢ 34 → (b == 34) ≡ q → (b == d) ≡ x → (b == 10) ≡ false → (b == 13) ≡ false
    → Ends d Start st.StartField b ⊎ (Drops d Start st.StartField b ⊎ Keeps d Start st.StartField b)
unfolding Agrees
start_steps d b true x other q e n r = inr (inl (record {
  goes_on = no_delimiter d b other q;
  dropped = q;
  next = st.InQuoted;
  agrees = rw q refl;
  step_is = rw q refl;
}))
start_steps d b false true other q e n r = inl (record { ends = e; step_is = rw (q, e) refl })
start_steps d b false false other q e n r = inr (inr (record { goes_on = e; kept = q; next = st.InField; agrees = rw q refl; step_is = rw (q, e, n, r) refl }))

closed_steps : (d b : ℕ) (q x : Bool) → d ≢ 34 → (b == 34) ≡ q → (b == d) ≡ x → (b == 10) ≡ false → (b == 13) ≡ false
    → Ends d AfterQuote st.AfterQuote b ⊎ (Drops d AfterQuote st.AfterQuote b ⊎ Keeps d AfterQuote st.AfterQuote b)
unfolding Agrees
closed_steps d b true x other q e n r = inr (inr (record {
  goes_on = no_delimiter d b other q;
  kept = refl;
  next = st.InQuoted;
  agrees = rw q refl;
  step_is = rw q refl;
}))
closed_steps d b false true other q e n r = inl (record { ends = e; step_is = rw (q, e) refl })
closed_steps d b false false other q e n r = inr (inr (record { goes_on = e; kept = refl; next = st.InField; agrees = rw q refl; step_is = rw (q, e, n, r) refl }))

quoted_steps : (d b : ℕ) (q : Bool) → (b == 34) ≡ q → Ends d Quoted st.InQuoted b ⊎ (Drops d Quoted st.InQuoted b ⊎ Keeps d Quoted st.InQuoted b)
unfolding Agrees
quoted_steps d b true q = inr (inl (record { goes_on = refl; dropped = q; next = st.AfterQuote; agrees = rw q refl; step_is = rw q refl }))
quoted_steps d b false q = inr (inr (record { goes_on = refl; kept = q; next = st.InQuoted; agrees = rw q refl; step_is = rw q refl }))

steps : (d b : ℕ) (p : Place) (s : State) → d ≢ 34 → Agrees p s → ends_record p b ≡ false → Steps d p s b
unfolding Agrees Steps
steps d b Start s other agrees goes_on =
    let no = no_end (b == 10) (b == 13) goes_on in
    rw agrees (start_steps d b (b == 34) (b == d) other refl refl no.0 no.1)
steps d b Inside s other agrees goes_on =
    let no = no_end (b == 10) (b == 13) goes_on in
    rw agrees (field_steps d b (b == d) refl no.0 no.1)
steps d b Quoted s other agrees goes_on = rw agrees (quoted_steps d b (b == 34) refl)
steps d b AfterQuote s other agrees goes_on =
    let no = no_end (b == 10) (b == 13) goes_on in
    rw agrees (closed_steps d b (b == 34) (b == d) other refl refl no.0 no.1)

-- ---- the texts of fields, if the first field continues `f` at the place `p`
texts_from : Place → List ℕ → List (List ℕ) → List (List ℕ)
texts_from p f [] = []
texts_from p f (raw ∷ raws) = (f ++ content p raw) ∷ map (content Start) raws

texts_start : (raws : List (List ℕ)) → texts_from Start [] raws ≡ map (content Start) raws
unfolding texts_from
texts_start [] = refl
texts_start (raw ∷ raws) = refl

content_nothing : (p : Place) → content p [] ≡ []
unfolding content
content_nothing p = refl

content_drop : (p : Place) (b : ℕ) (rest : List ℕ) → is_dropped p b ≡ true → content p (b ∷ rest) ≡ content (within_after p b) rest
unfolding content
content_drop p b rest is = rw is refl

content_keep : (p : Place) (b : ℕ) (rest : List ℕ) → is_dropped p b ≡ false → content p (b ∷ rest) ≡ b ∷ content (within_after p b) rest
unfolding content
content_keep p b rest is = rw is refl

texts_drop : (p : Place) (b : ℕ) (f : List ℕ) (raws : List (List ℕ)) → is_dropped p b ≡ true → texts_from p f (onto_first b raws) ≡ texts_from (within_after p b) f raws
unfolding texts_from
texts_drop p b f [] is = refl
texts_drop p b f (raw ∷ raws) is = ap (λ l. (f ++ l) ∷ map (content Start) raws) (content_drop p b raw is)

texts_keep : (p : Place) (b : ℕ) (f : List ℕ) (raws : List (List ℕ)) → is_dropped p b ≡ false → texts_from p f (onto_first b raws) ≡ texts_from (within_after p b) (f ++ b ∷ []) raws
unfolding texts_from
texts_keep p b f [] is = refl
texts_keep p b f (raw ∷ raws) is =
    ap (λ l. (f ++ l) ∷ map (content Start) raws) (content_keep p b raw is)
    ∙ ap (λ l. l ∷ map (content Start) raws) (sym (append_assoc f (b ∷ []) (content (within_after p b) raw)))

texts_end : (p : Place) (f : List ℕ) (raws : List (List ℕ)) → texts_from p f ([] ∷ raws) ≡ f ∷ map (content Start) raws
unfolding texts_from
texts_end p f raws = ap (λ l. (f ++ l) ∷ map (content Start) raws) (content_nothing p) ∙ ap (λ l. l ∷ map (content Start) raws) (append-nil f)

-- ---- a whole record
on_step : (d b : ℕ) (s next : State) (action : Action) (fs : List (List ℕ)) (f rest : List ℕ) → step (reads_with d) s b ≡ (next, action) → is_end action ≡ false
    → next_record (reads_with d) s fs f (b ∷ rest) ≡ next_record (reads_with d) next (fields_after action fs f) (field_after action b f) rest
unfolding next_record
on_step d b s next action fs f rest is goes_on = rw (is, goes_on) refl

-- the reader reads the fields of `bytes` from the place `p`, ends the record in `tail` and leaves `more`
pub ReadsAs : ℕ → Place → State → List (List ℕ) → List ℕ → List ℕ → List ℕ → State → List ℕ → Type 0
ReadsAs d p s fs f bytes tail after more =
    next_record (reads_with d) s fs f (bytes ++ tail) ≡ Some (fs ++ texts_from p f (raw_fields d p bytes), after, more)

-- at the place `last`, the reader ends the record in `tail` and leaves `more`
pub EndsSo : ℕ → Place → List ℕ → State → List ℕ → Type 0
EndsSo d last tail after more = (s : State) (fs : List (List ℕ)) (f : List ℕ) → Agrees last s
    → next_record (reads_with d) s fs f tail ≡ Some (fs ++ f ∷ [], after, more)

walk_end : (d b : ℕ) (p : Place) (s after : State) (fs : List (List ℕ)) (f rest tail more : List ℕ) → Ends d p s b
    → ReadsAs d Start st.StartField (fs ++ f ∷ []) [] rest tail after more → ReadsAs d p s fs f (b ∷ rest) tail after more
unfolding ReadsAs
walk_end d b p s after fs f rest tail more one next =
    on_step d b s st.StartField act.EndField fs f (rest ++ tail) one.step_is refl ∙ next
    ∙ ap (λ l. Some (l, after, more)) (ap (λ l. (fs ++ f ∷ []) ++ l) (texts_start (raw_fields d Start rest)) ∙ append_assoc fs (f ∷ []) (map (content Start) (raw_fields d Start rest))
    ∙ ap (λ l. fs ++ l) (sym (texts_end p f (raw_fields d Start rest)) ∙ ap (texts_from p f) (sym (raw_end d p b rest one.ends))))

walk_drop : (d b : ℕ) (p : Place) (s after : State) (fs : List (List ℕ)) (f rest tail more : List ℕ) (one : Drops d p s b)
    → ReadsAs d (within_after p b) one.next fs f rest tail after more → ReadsAs d p s fs f (b ∷ rest) tail after more
unfolding ReadsAs
walk_drop d b p s after fs f rest tail more one next =
    on_step d b s one.next act.Skip fs f (rest ++ tail) one.step_is refl ∙ next
    ∙ ap (λ l. Some (fs ++ l, after, more)) (sym (texts_drop p b f (raw_fields d (within_after p b) rest) one.dropped) ∙ ap (texts_from p f) (sym (raw_on d p b rest one.goes_on)))

walk_keep : (d b : ℕ) (p : Place) (s after : State) (fs : List (List ℕ)) (f rest tail more : List ℕ) (one : Keeps d p s b)
    → ReadsAs d (within_after p b) one.next fs (f ++ b ∷ []) rest tail after more → ReadsAs d p s fs f (b ∷ rest) tail after more
unfolding ReadsAs
walk_keep d b p s after fs f rest tail more one next =
    on_step d b s one.next act.Copy fs f (rest ++ tail) one.step_is refl ∙ next
    ∙ ap (λ l. Some (fs ++ l, after, more)) (sym (texts_keep p b f (raw_fields d (within_after p b) rest) one.kept) ∙ ap (texts_from p f) (sym (raw_on d p b rest one.goes_on)))

place_end : (d : ℕ) (p : Place) (b : ℕ) → ends_field d p b ≡ true → place_after d p b ≡ Start
place_end d p b is = rw is refl

place_on : (d : ℕ) (p : Place) (b : ℕ) → ends_field d p b ≡ false → place_after d p b ≡ within_after p b
place_on d p b is = rw is refl

walk_none : (d : ℕ) (p : Place) (s after : State) (fs : List (List ℕ)) (f tail more : List ℕ) → Agrees p s → EndsSo d p tail after more → ReadsAs d p s fs f [] tail after more
unfolding ReadsAs EndsSo
walk_none d p s after fs f tail more agrees ends =
    ends s fs f agrees ∙ ap (λ l. Some (fs ++ l, after, more)) (sym (texts_end p f []) ∙ ap (texts_from p f) (sym (raw_none d p)))

walk : (d : ℕ) (p : Place) (s after : State) (fs : List (List ℕ)) (f bytes tail more : List ℕ) → d ≢ 34 → Agrees p s → IsUnended d p bytes
    → EndsSo d (places_after d p bytes) tail after more → ReadsAs d p s fs f bytes tail after more
unfolding IsUnended places_after Steps
walk d p s after fs f [] tail more other agrees unended ends = walk_none d p s after fs f tail more agrees ends
walk d p s after fs f (b ∷ rest) tail more other agrees unended ends = ⊎_elim
    (λ (one : Ends d p s b). walk_end d b p s after fs f rest tail more one
    (walk d Start st.StartField after (fs ++ f ∷ []) [] rest tail more other start_agrees (subst (λ q. IsUnended d q rest) (place_end d p b one.ends) unended.1)
    (subst (λ q. EndsSo d (places_after d q rest) tail after more) (place_end d p b one.ends) ends)))
    (λ (others : Drops d p s b ⊎ Keeps d p s b). ⊎_elim
    (λ (one : Drops d p s b). walk_drop d b p s after fs f rest tail more one
    (walk d (within_after p b) one.next after fs f rest tail more other one.agrees (subst (λ q. IsUnended d q rest) (place_on d p b one.goes_on) unended.1)
    (subst (λ q. EndsSo d (places_after d q rest) tail after more) (place_on d p b one.goes_on) ends)))
    (λ (one : Keeps d p s b). walk_keep d b p s after fs f rest tail more one
    (walk d (within_after p b) one.next after fs (f ++ b ∷ []) rest tail more other one.agrees (subst (λ q. IsUnended d q rest) (place_on d p b one.goes_on) unended.1)
    (subst (λ q. EndsSo d (places_after d q rest) tail after more) (place_on d p b one.goes_on) ends)))
    others)
    (steps d b p s other agrees unended.0)

-- ---- the ends of records
-- the reader is between two records
pub Between : State → Type 0
Between s = (s ≡ st.StartRecord) ⊎ (s ≡ st.AfterCr)

between_start : Between st.StartRecord
unfolding Between
between_start = inl refl

after_line : ℕ → State
after_line byte = if byte == 13 then st.AfterCr else st.StartRecord

between_line : (byte : ℕ) (z : Bool) → (byte == 13) ≡ z → Between (after_line byte)
unfolding Between after_line
between_line byte true is = rw is (inr refl)
between_line byte false is = rw is (inl refl)

-- a line end inside an unquoted field ends the record
line_step : (d byte : ℕ) (y z : Bool) → d ≢ 10 → d ≢ 13 → (byte == 10) ≡ y → (byte == 13) ≡ z → (y || z) ≡ true → in_field (reads_with d) byte ≡ (after_line byte, act.EndRecord)
unfolding after_line
line_step d byte true z newline return y r is =
    let other : (byte == d) ≡ false = from_never (byte == d) (λ same. newline (sym (eqb-true byte d same) ∙ eqb-true byte 10 y)) in
    let none : (byte == 13) ≡ false = ap (λ b. b == 13) (eqb-true byte 10 y) in
    rw (other, none, y) refl
line_step d byte false true newline return y r is =
    let other : (byte == d) ≡ false = from_never (byte == d) (λ same. return (sym (eqb-true byte d same) ∙ eqb-true byte 13 r)) in
    rw (other, r) refl
line_step d byte false false newline return y r is = absurd (false≢true is)

-- a line end is not a quote
line_quote : (byte : ℕ) (y z : Bool) → (byte == 10) ≡ y → (byte == 13) ≡ z → (y || z) ≡ true → (byte == 34) ≡ false
line_quote byte true z y r is = ap (λ b. b == 34) (eqb-true byte 10 y)
line_quote byte false true y r is = ap (λ b. b == 34) (eqb-true byte 13 r)
line_quote byte false false y r is = absurd (false≢true is)

end_step : (d byte : ℕ) (p : Place) (s : State) → IsDelimiter d → Agrees p s → ends_record p byte ≡ true → step (reads_with d) s byte ≡ (after_line byte, act.EndRecord)
unfolding Agrees
end_step d byte Start s is agrees ends =
    rw (agrees, line_quote byte (byte == 10) (byte == 13) refl refl ends) (line_step d byte (byte == 10) (byte == 13) is.no_newline is.no_return refl refl ends)
end_step d byte Inside s is agrees ends = rw agrees (line_step d byte (byte == 10) (byte == 13) is.no_newline is.no_return refl refl ends)
end_step d byte Quoted s is agrees ends = absurd (false≢true ends)
end_step d byte AfterQuote s is agrees ends =
    rw (agrees, line_quote byte (byte == 10) (byte == 13) refl refl ends) (line_step d byte (byte == 10) (byte == 13) is.no_newline is.no_return refl refl ends)

ends_by_line : (d byte : ℕ) (p : Place) (more : List ℕ) → IsDelimiter d → ends_record p byte ≡ true → EndsSo d p (byte ∷ more) (after_line byte) more
unfolding EndsSo next_record
ends_by_line d byte p more is ends = λ s fs f agrees. rw (end_step d byte p s is agrees ends) refl

ends_by_text : (d : ℕ) (p : Place) → EndsSo d p [] st.StartRecord []
unfolding EndsSo next_record Agrees
ends_by_text d Start = λ s fs f agrees. rw agrees refl
ends_by_text d Inside = λ s fs f agrees. rw agrees refl
ends_by_text d Quoted = λ s fs f agrees. rw agrees refl
ends_by_text d AfterQuote = λ s fs f agrees. rw agrees refl

-- ---- the first byte of a record, and empty lines
first_step : (d b : ℕ) (s : State) → Between s → (b == 10) ≡ false → (b == 13) ≡ false → step (reads_with d) s b ≡ step (reads_with d) st.StartField b
unfolding Between
first_step d b s (inl is) n r = rw (is, n, r) refl
first_step d b s (inr is) n r = rw (is, n, r) refl

first_record : (d b : ℕ) (s : State) (rest : List ℕ) → Between s → (b == 10) ≡ false → (b == 13) ≡ false
    → next_record (reads_with d) s [] [] (b ∷ rest) ≡ next_record (reads_with d) st.StartField [] [] (b ∷ rest)
unfolding next_record
first_record d b s rest between n r = rw (first_step d b s between n r) refl

starts : (d : ℕ) (body tail : List ℕ) (s : State) → Between s → body ≢ [] → IsUnended d Start body
    → next_record (reads_with d) s [] [] (body ++ tail) ≡ next_record (reads_with d) st.StartField [] [] (body ++ tail)
unfolding IsUnended
starts d [] tail s between some unended = absurd (some refl)
starts d (b ∷ rest) tail s between some unended =
    let no = no_end (b == 10) (b == 13) unended.0 in
    first_record d b s (rest ++ tail) between no.0 no.1

empty_step : (d byte : ℕ) (s : State) (y z : Bool) → Between s → (byte == 10) ≡ y → (byte == 13) ≡ z → (y || z) ≡ true → step (reads_with d) s byte ≡ (st.StartRecord, act.Skip)
unfolding Between
empty_step d byte s true z (inl is) y r ends = rw (is, y, ap (λ b. b == 13) (eqb-true byte 10 y)) refl
empty_step d byte s true z (inr is) y r ends = rw (is, y) refl
empty_step d byte s false true (inl is) y r ends = rw (is, r) refl
empty_step d byte s false true (inr is) y r ends = rw (is, y, r) refl
empty_step d byte s false false between y r ends = absurd (false≢true ends)

empty_record : (d byte : ℕ) (s : State) (more : List ℕ) → Between s → ends_record Start byte ≡ true
    → next_record (reads_with d) s [] [] (byte ∷ more) ≡ next_record (reads_with d) st.StartRecord [] [] more
unfolding next_record
empty_record d byte s more between ends = rw (empty_step d byte s (byte == 10) (byte == 13) between refl refl ends) refl

-- ---- one record of the reader
reads_fields : (d : ℕ) (body tail more : List ℕ) (s after : State) → IsDelimiter d → Between s → body ≢ [] → IsUnended d Start body
    → EndsSo d (places_after d Start body) tail after more → next_record (reads_with d) s [] [] (body ++ tail) ≡ Some (field_texts d body, after, more)
unfolding ReadsAs Agrees
reads_fields d body tail more s after is between some unended ends =
    starts d body tail s between some unended ∙ walk d Start st.StartField after [] [] body tail more is.no_quote refl unended ends
    ∙ ap (λ l. Some (l, after, more)) (texts_start (raw_fields d Start body))

-- ---- all records of a text
none_left : (d : ℕ) (s : State) → Between s → next_record (reads_with d) s [] [] [] ≡ None
unfolding next_record Between
none_left d s (inl is) = rw is refl
none_left d s (inr is) = rw is refl

no_records : (d : ℕ) (s : State) → Between s → AreRecords (reads_with d) s [] []
unfolding Reached
no_records d s between = (s, [], (refl, refl), none_left d s between)

-- bytes before a record that the reader skips
skips : (d : ℕ) (s s' : State) (xs ys : List ℕ) (recs : List (List (List ℕ))) → next_record (reads_with d) s [] [] xs ≡ next_record (reads_with d) s' [] [] ys
    → AreRecords (reads_with d) s' ys recs → AreRecords (reads_with d) s xs recs
unfolding Reached
skips d s s' xs ys [] is all =
    (s, xs, (refl, refl), is ∙ ap (λ q. next_record (reads_with d) q [] [] ys) all.2.0 ∙ ap (λ l. next_record (reads_with d) all.0 [] [] l) all.2.1 ∙ all.3)
skips d s s' xs ys (first ∷ recs) is all = (all.0, all.1, (all.2.0, is ∙ all.2.1, all.2.2, all.2.3), all.3)

-- a record, followed by the other records
first_of : (d : ℕ) (s after : State) (xs more : List ℕ) (fields : List (List ℕ)) (recs : List (List (List ℕ))) → next_record (reads_with d) s [] [] xs ≡ Some (fields, after, more)
    → AreRecords (reads_with d) after more recs → AreRecords (reads_with d) s xs (fields ∷ recs)
unfolding Reached
first_of d s after xs more fields recs is all = (all.0, all.1, ((fields, after, more), is, refl, all.2), all.3)

records_some : (d : ℕ) (row : Row) (rows : List Row) → row.body ≢ [] → records_of d (row ∷ rows) ≡ field_texts d row.body ∷ records_of d rows
records_some d row rows some =
    let other : (length row.body == 0) ≡ false = from_never (length row.body == 0) (λ is. some (nil_from_length row.body (eqb-true (length row.body) 0 is))) in
    rw other refl

records_none : (d : ℕ) (row : Row) (rows : List Row) → row.body ≡ [] → records_of d (row ∷ rows) ≡ records_of d rows
records_none d row rows none =
    let same : (length row.body == 0) ≡ true = ap (λ l. length l == 0) none in
    rw same refl

-- the bytes of rows that start with an ended row
row_before : (row : Row) (rows : List Row) (byte : ℕ) → row.end ≡ byte ∷ [] → rows_text (row ∷ rows) ≡ row.body ++ (byte ∷ rows_text rows)
row_before row rows byte is = append_assoc row.body row.end (rows_text rows) ∙ ap (λ l. row.body ++ (l ++ rows_text rows)) is

ended_record : (d : ℕ) (row : Row) (rows : List Row) (s : State) → IsDelimiter d → Between s → row.body ≢ [] → (ended : IsEnded d row)
    → AreRecords (reads_with d) (after_line ended.byte) (rows_text rows) (records_of d rows) → AreRecords (reads_with d) s (rows_text (row ∷ rows)) (records_of d (row ∷ rows))
ended_record d row rows s is between some ended next =
    let one = reads_fields d row.body (ended.byte ∷ rows_text rows) (rows_text rows) s (after_line ended.byte) is between some ended.unended
    (ends_by_line d ended.byte (places_after d Start row.body) (rows_text rows) is ended.ends) in
    subst (λ l. AreRecords (reads_with d) s l (records_of d (row ∷ rows))) (sym (row_before row rows ended.byte ended.is_end))
    (subst (λ l. AreRecords (reads_with d) s (row.body ++ (ended.byte ∷ rows_text rows)) l) (sym (records_some d row rows some))
    (first_of d s (after_line ended.byte) (row.body ++ (ended.byte ∷ rows_text rows)) (rows_text rows) (field_texts d row.body) (records_of d rows) one next))

place_first : (d : ℕ) (body : List ℕ) → body ≡ [] → places_after d Start body ≡ Start
unfolding places_after
place_first d body is = rw is refl

empty_line : (d : ℕ) (row : Row) (rows : List Row) (s : State) → Between s → row.body ≡ [] → (ended : IsEnded d row)
    → AreRecords (reads_with d) st.StartRecord (rows_text rows) (records_of d rows) → AreRecords (reads_with d) s (rows_text (row ∷ rows)) (records_of d (row ∷ rows))
empty_line d row rows s between none ended next =
    let ends : ends_record Start ended.byte ≡ true = subst (λ p. ends_record p ended.byte ≡ true) (place_first d row.body none) ended.ends in
    let text : rows_text (row ∷ rows) ≡ ended.byte ∷ rows_text rows = row_before row rows ended.byte ended.is_end ∙ ap (λ l. l ++ (ended.byte ∷ rows_text rows)) none in
    subst (λ l. AreRecords (reads_with d) s l (records_of d (row ∷ rows))) (sym text)
    (subst (λ l. AreRecords (reads_with d) s (ended.byte ∷ rows_text rows) l) (sym (records_none d row rows none))
    (skips d s st.StartRecord (ended.byte ∷ rows_text rows) (rows_text rows) (records_of d rows) (empty_record d ended.byte s (rows_text rows) between ends) next))

last_record : (d : ℕ) (row : Row) (rows : List Row) (s : State) → IsDelimiter d → Between s → IsLast d row → rows ≡ []
    → AreRecords (reads_with d) s (rows_text (row ∷ rows)) (records_of d (row ∷ rows))
unfolding Between
last_record d row rows s is between last none =
    let one = reads_fields d row.body [] [] s st.StartRecord is between last.some last.unended (ends_by_text d (places_after d Start row.body)) in
    let text : rows_text (row ∷ rows) ≡ row.body ++ [] = append_assoc row.body row.end (rows_text rows) ∙ ap (λ l. row.body ++ (l ++ rows_text rows)) last.is_end
    ∙ ap (λ l. row.body ++ rows_text l) none in
    subst (λ l. AreRecords (reads_with d) s l (records_of d (row ∷ rows))) (sym text)
    (subst (λ l. AreRecords (reads_with d) s (row.body ++ []) l) (sym (records_some d row rows last.some ∙ ap (λ l. field_texts d row.body ∷ records_of d l) none))
    (first_of d s st.StartRecord (row.body ++ []) [] (field_texts d row.body) [] one (no_records d st.StartRecord (inl refl))))

is_none : (body : List ℕ) → (body ≡ []) ⊎ (body ≢ [])
is_none [] = inl refl
is_none (b ∷ rest) = inr (λ e. absurd (omega (arith, ap length e)))

pub are_records : (d : ℕ) (rows : List Row) (s : State) → IsDelimiter d → Between s → AreRows d rows → AreRecords (reads_with d) s (rows_text rows) (records_of d rows)
are_records d [] s is between rows = no_records d s between
are_records d (row ∷ rows) s is between (inl ended) = ⊎_elim
    (λ (none : row.body ≡ []). empty_line d row rows s between none ended.0 (are_records d rows st.StartRecord is between_start ended.1))
    (λ (some : row.body ≢ []). ended_record d row rows s is between some ended.0
    (are_records d rows (after_line ended.0.byte) is (between_line ended.0.byte (ended.0.byte == 13) refl) ended.1))
    (is_none row.body)
are_records d (row ∷ rows) s is between (inr last) = last_record d row rows s is between last.0 last.1

pub records_are_the_kits : RecordsAreTheKits
unfolding Between
records_are_the_kits d rows is rows_are = are_records d rows st.StartRecord is (inl refl) rows_are
