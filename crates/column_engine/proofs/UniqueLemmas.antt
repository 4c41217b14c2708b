-- A text determines its records, and a rule with one reply for each text determines the output for them.
use Rattle.std.proofs.Common.{◌≡◌, ◌<◌, ◌≤◌, ◌+◌, ℕ, List, [], ◌∷◌, ◌++◌, Bool, true, false, refl, sym, ap, ◌∙◌, subst, append_assoc, append-nil, arith, if◌then◌else◌, length, inl, inr, ◌⊎◌, ⊎_elim, get_or, length-append}
use Rattle.std.proofs.lemmas.Bool.{cases_lt, false≢true}
use Rattle.std.specs.Prelude.{Option, Some, None, string_bytes}
use Rattle.line_engine.specs.AnswerText.{AnswerText}
use Rattle.column_engine.specs.Answers.{AnswersFields, AnswersRow, AnswersRows, AppendsField, AreAnswers, AreFound, FieldAnswer, HasNoNamed, IsAnswer, IsFirstNamed, IsFound, PassesHeader, State, answers_text, count_refused, first_asked, is_asked, one_more, stays, written_for}
use Rattle.column_engine.specs.Laws.{AnswersAreTheOne, RowsAreTheOnes}
use Rattle.csv.specs.Reading.{strip_bom}
use Rattle.column_engine.specs.Run.{AnswersLast, HasRun, RunsText, StopsText}
use Rattle.column_engine.specs.Steps.{SameCounts}
use Rattle.column_engine.specs.declared.end.Stop.TheVariants.{Done}
use Rattle.column_engine.specs.Rows.{AreEnded, IsEnded, IsUnended, Row, ends_record, place_after, places_after, raw_fields, row_text, rows_text}
use Rattle.column_engine.specs.declared.columns.Column.{Column}
use Rattle.column_engine.specs.declared.columns.Column.TheVariants.{At, Named}
use Rattle.column_engine.specs.declared.columns.Keeping.{Keeping}
use Rattle.column_engine.specs.declared.columns.Range.{Range}
use Rattle.column_engine.specs.declared.place.Place.{Place}
use Rattle.column_engine.specs.declared.place.Place.TheVariants.{Start}

-- ---- the columns that operands mean
first_one : (name : List ℕ) (names : List (List ℕ)) (a b : ℕ) → IsFirstNamed name names a → IsFirstNamed name names b → a ≡ b
first_one name names a b first next = ⊎_elim
    (λ (low : a < b). absurd (next.first a low first.named))
    (λ (high : b ≤ a). ⊎_elim
    (λ (low : b < a). absurd (first.first b low next.named))
    (λ (same : a ≤ b). omega (arith, high, same))
    (cases_lt b a))
    (cases_lt a b)

pub named_none : (name : List ℕ) (names : List (List ℕ)) (place : ℕ) → IsFirstNamed name names place → HasNoNamed name names → ⊥
named_none name names place first none = none place first.there first.named

range_is : (a b : Range) → a.from ≡ b.from → a.to ≡ b.to → a ≡ b
range_is a b from to = ap (λ f. record a { from = f }) from ∙ ap (λ t. record b { to = t }) to

some_is : (a b : Range) (range : Option Range) → range ≡ Some a → range ≡ Some b → a ≡ b
some_is a b None first next = cc first
some_is a b (Some r) first next = cc (first, next)

found_one : (names : List (List ℕ)) (column : Column) (a b : Range) → IsFound names column a → IsFound names column b → a ≡ b
found_one names (At range) a b first next = first ∙ sym next
found_one names (Named name range) a b (inl first) (inl next) =
    let from = first_one (string_bytes name) names a.from b.from first.0 next.0 in
    range_is a b from (first.1 ∙ from ∙ sym next.1)
found_one names (Named name range) a b (inl first) (inr next) = absurd (named_none (string_bytes name) names a.from first.0 next.0)
found_one names (Named name range) a b (inr first) (inl next) = absurd (named_none (string_bytes name) names b.from next.0 first.0)
found_one names (Named name range) a b (inr first) (inr next) = some_is a b range first.1 next.1

pub all_found_one : (names : List (List ℕ)) (columns : List Column) (a b : List Range) → AreFound names columns a → AreFound names columns b → a ≡ b
all_found_one names [] [] [] first next = refl
all_found_one names [] [] (r ∷ rs) first next = absurd next
all_found_one names [] (r ∷ rs) b first next = absurd first
all_found_one names (column ∷ columns) [] b first next = absurd first
all_found_one names (column ∷ columns) (a ∷ others) [] first next = absurd next
all_found_one names (column ∷ columns) (a ∷ others) (b ∷ bs) first next =
    ap (λ r. r ∷ others) (found_one names column a b first.0 next.0) ∙ ap (λ l. b ∷ l) (all_found_one names columns others bs first.1 next.1)

-- ---- the answers
module _ (A : List ℕ → AnswerText → Type 0) (one : (field : List ℕ) (a b : AnswerText) → A field a → A field b → a ≡ b) (keeps : Keeping) (d : ℕ) where
  answer_of : List ℕ → AnswerText → FieldAnswer
  answer_of raw reply = record { text = if stays keeps reply then raw else written_for keeps d raw reply; refused = reply.fault }

  answer_one : (asks : Bool) (raw : List ℕ) (a b : FieldAnswer) → IsAnswer A keeps d asks raw a → IsAnswer A keeps d asks raw b → a ≡ b
  unfolding answer_of
  answer_one false raw a b first next = first ∙ sym next
  answer_one true raw a b first next = first.2 ∙ ap (answer_of raw) (one _ first.0 next.0 first.1 next.1) ∙ sym next.2

  answers_one : (asked : List Range) (column : ℕ) (raws : List (List ℕ)) (a b : List FieldAnswer) → AreAnswers A keeps d asked column raws a
      → AreAnswers A keeps d asked column raws b → a ≡ b
  answers_one asked column [] [] [] first next = refl
  answers_one asked column [] [] (b ∷ bs) first next = absurd next
  answers_one asked column [] (a ∷ others) b first next = absurd first
  answers_one asked column (raw ∷ raws) [] b first next = absurd first
  answers_one asked column (raw ∷ raws) (a ∷ others) [] first next = absurd next
  answers_one asked column (raw ∷ raws) (a ∷ others) (b ∷ bs) first next =
      ap (λ x. x ∷ others) (answer_one (is_asked asked column) raw a b first.0 next.0) ∙ ap (λ l. b ∷ l) (answers_one asked (column + 1) raws others bs first.1 next.1)

  fields_one_text : (s t u : State) (row : Row) (a b : List ℕ) → AnswersFields A keeps d s row a t → AnswersFields A keeps d s row b u → (a ≡ b) × (t ≡ u)
  fields_one_text s t u row a b first next =
      let same = answers_one s.asked 0 (raw_fields d Start row.body) first.answers next.answers first.are next.are in
      (first.text_is ∙ ap (λ l. answers_text d 0 l ++ row.end) same ∙ sym next.text_is, first.after ∙ ap (λ l. one_more s (count_refused l)) same ∙ sym next.after)

  header_one : (columns : List Column) (s t u : State) (row : Row) (a b : List ℕ) → PassesHeader d columns s row a t → PassesHeader d columns s row b u → (a ≡ b) × (t ≡ u)
  header_one columns s t u row a b first next =
      let same = all_found_one _ columns first.found next.found first.are_found next.are_found in
      (first.text_is ∙ sym next.text_is, first.after ∙ ap (λ l. one_more (record s { headed = false; asked = l }) 0) same ∙ sym next.after)

  longer_one_text : (s t u : State) (row : Row) (a b : List ℕ) → AppendsField A keeps d s row a t → AppendsField A keeps d s row b u → (a ≡ b) × (t ≡ u)
  longer_one_text s t u row a b first next =
      let same = answer_one true (get_or (raw_fields d Start row.body) (first_asked s.asked) []) first.answer next.answer first.is next.is in (
        first.text_is ∙ ap (λ (x : FieldAnswer). row.body ++ d ∷ x.text ++ row.end) same ∙ sym next.text_is,
        first.after ∙ ap (λ (x : FieldAnswer). one_more s (if x.refused then 1 else 0)) same ∙ sym next.after,
      )

  not_both_ways : (s t u : State) (row : Row) (a b : List ℕ) → AnswersFields A keeps d s row a t → AppendsField A keeps d s row b u → ⊥
  not_both_ways s t u row a b first next = let two : None ≡ Some next.name = sym first.in_place ∙ next.into in cc

  record_one : (s t u : State) (row : Row) (a b : List ℕ) → AnswersFields A keeps d s row a t ⊎ AppendsField A keeps d s row a t
      → AnswersFields A keeps d s row b u ⊎ AppendsField A keeps d s row b u → (a ≡ b) × (t ≡ u)
  record_one s t u row a b (inl first) (inl next) = fields_one_text s t u row a b first next
  record_one s t u row a b (inl first) (inr next) = absurd (not_both_ways s t u row a b first next)
  record_one s t u row a b (inr first) (inl next) = absurd (not_both_ways s u t row b a next first)
  record_one s t u row a b (inr first) (inr next) = longer_one_text s t u row a b first next

  record_known : (s t : State) (row : Row) (text : List ℕ) → AnswersFields A keeps d s row text t ⊎ AppendsField A keeps d s row text t → s.headed ≡ false
  record_known s t row text (inl fields) = fields.known
  record_known s t row text (inr one) = one.known

  some_one : (columns : List Column) (s t u : State) (row : Row) (a b : List ℕ)
      → PassesHeader d columns s row a t ⊎ (AnswersFields A keeps d s row a t ⊎ AppendsField A keeps d s row a t)
      → PassesHeader d columns s row b u ⊎ (AnswersFields A keeps d s row b u ⊎ AppendsField A keeps d s row b u) → (a ≡ b) × (t ≡ u)
  some_one columns s t u row a b (inl first) (inl next) = header_one columns s t u row a b first next
  some_one columns s t u row a b (inl first) (inr next) = absurd (false≢true (sym (record_known s u row b next) ∙ first.next))
  some_one columns s t u row a b (inr first) (inl next) = absurd (false≢true (sym (record_known s t row a first) ∙ next.next))
  some_one columns s t u row a b (inr first) (inr next) = record_one s t u row a b first next

  pub row_one : (columns : List Column) (s t u : State) (row : Row) (a b : List ℕ) → AnswersRow A keeps d columns s row a t → AnswersRow A keeps d columns s row b u → (a ≡ b) × (t ≡ u)
  row_one columns s t u row a b (inl first) (inl next) = (first.text_is ∙ sym next.text_is, first.after ∙ sym next.after)
  row_one columns s t u row a b (inl first) (inr next) = absurd (next.0 first.empty)
  row_one columns s t u row a b (inr first) (inl next) = absurd (first.0 next.empty)
  row_one columns s t u row a b (inr first) (inr next) = some_one columns s t u row a b first.1 next.1

  rows_one : (columns : List Column) (s t u : State) (rows : List Row) (a b : List ℕ) → AnswersRows A keeps d columns s rows a t → AnswersRows A keeps d columns s rows b u
      → (a ≡ b) × (t ≡ u)
  rows_one columns s t u [] a b first next = (first.0 ∙ sym next.0, first.1 ∙ sym next.1)
  rows_one columns s t u (row ∷ rows) a b first next =
      let same = row_one columns s first.2 next.2 row first.0 next.0 first.3 next.3 in
      let others = rows_one columns next.2 t u rows first.1 next.1 (subst (λ q. AnswersRows A keeps d columns q rows first.1 t) same.1 first.4) next.4 in
      (first.5 ∙ ap (λ l. l ++ first.1) same.0 ∙ ap (λ l. next.0 ++ l) others.0 ∙ sym next.5, others.1)

pub answers_are_the_one : (A : List ℕ → AnswerText → Type 0) → ((field : List ℕ) (a b : AnswerText) → A field a → A field b → a ≡ b) → AnswersAreTheOne A
answers_are_the_one A one keeps d columns s rows a b t u first next = rows_one A one keeps d columns s t u rows a b first next

-- ---- the first record of a text
pub head_is : (x y : ℕ) (xs ys : List ℕ) → x ∷ xs ≡ y ∷ ys → x ≡ y
head_is x y xs ys e = ap (λ l. get_or l 0 0) e

tail_of : List ℕ → List ℕ
tail_of [] = []
tail_of (x ∷ xs) = xs

pub tail_is : (x y : ℕ) (xs ys : List ℕ) → x ∷ xs ≡ y ∷ ys → xs ≡ ys
unfolding tail_of
tail_is x y xs ys e = ap tail_of e

-- two splits of the same bytes at the end of the first record agree
pub record SameEnd (body body' more more' : List ℕ) (byte byte' : ℕ) : Type 0 where
  pub bodies : body ≡ body'
  pub ends : byte ≡ byte'
  pub rests : more ≡ more'

end_one : (d : ℕ) (p : Place) (body body' more more' : List ℕ) (byte byte' : ℕ) → IsUnended d p body → IsUnended d p body' → ends_record (places_after d p body) byte ≡ true
    → ends_record (places_after d p body') byte' ≡ true → body ++ byte ∷ more ≡ body' ++ byte' ∷ more' → SameEnd body body' more more' byte byte'
unfolding IsUnended places_after
end_one d p [] [] more more' byte byte' first next ends ends' e = record { bodies = refl; ends = head_is byte byte' more more' e; rests = tail_is byte byte' more more' e }
end_one d p [] (b ∷ body') more more' byte byte' first next ends ends' e =
    absurd (false≢true (sym next.0 ∙ ap (ends_record p) (sym (head_is byte b more (body' ++ byte' ∷ more') e)) ∙ ends))
end_one d p (b ∷ body) [] more more' byte byte' first next ends ends' e =
    absurd (false≢true (sym first.0 ∙ ap (ends_record p) (head_is b byte' (body ++ byte ∷ more) more' e) ∙ ends'))
end_one d p (b ∷ body) (b' ∷ body') more more' byte byte' first next ends ends' e =
    let same = head_is b b' (body ++ byte ∷ more) (body' ++ byte' ∷ more') e in
    let place : place_after d p b' ≡ place_after d p b = ap (place_after d p) (sym same) in
    let later = end_one d (place_after d p b) body body' more more' byte byte' first.1 (subst (λ q. IsUnended d q body') place next.1) ends
    (subst (λ q. ends_record (places_after d q body') byte' ≡ true) place ends') (tail_is b b' (body ++ byte ∷ more) (body' ++ byte' ∷ more') e) in
    record { bodies = ap (λ x. x ∷ body) same ∙ ap (λ l. b' ∷ l) later.bodies; ends = later.ends; rests = later.rests }

pub row_is : (a b : Row) → a.body ≡ b.body → a.end ≡ b.end → a ≡ b
row_is a b body end = ap (λ l. record a { body = l }) body ∙ ap (λ l. record b { end = l }) end

-- bytes that start with a record that ended determine that record and the bytes after it
pub first_row_one : (d : ℕ) (row row' : Row) (more more' : List ℕ) → IsEnded d row → IsEnded d row' → row_text row ++ more ≡ row_text row' ++ more' → (row ≡ row') × (more ≡ more')
first_row_one d row row' more more' ended ended' e =
    let first : row_text row ++ more ≡ row.body ++ ended.byte ∷ more = append_assoc row.body row.end more ∙ ap (λ l. row.body ++ (l ++ more)) ended.is_end in
    let next : row_text row' ++ more' ≡ row'.body ++ ended'.byte ∷ more' = append_assoc row'.body row'.end more' ∙ ap (λ l. row'.body ++ (l ++ more')) ended'.is_end in
    let same = end_one d Start row.body row'.body more more' ended.byte ended'.byte ended.unended ended'.unended ended.ends ended'.ends (sym first ∙ e ∙ next) in
    (row_is row row' same.bodies (ended.is_end ∙ ap (λ b. b ∷ []) same.ends ∙ sym ended'.is_end), same.rests)

-- if bytes are unended, no record ends in them
no_row : (d : ℕ) (p : Place) (body more : List ℕ) (byte : ℕ) → ends_record (places_after d p body) byte ≡ true → IsUnended d p (body ++ byte ∷ more) → ⊥
unfolding IsUnended places_after
no_row d p [] more byte ends unended = false≢true (sym unended.0 ∙ ends)
no_row d p (b ∷ body) more byte ends unended = no_row d (place_after d p b) body more byte ends unended.1

pub unended_row : (d : ℕ) (row : Row) (more rest : List ℕ) → IsEnded d row → IsUnended d Start rest → rest ≡ row_text row ++ more → ⊥
unended_row d row more rest ended unended is =
    let first : row_text row ++ more ≡ row.body ++ ended.byte ∷ more = append_assoc row.body row.end more ∙ ap (λ l. row.body ++ (l ++ more)) ended.is_end in
    no_row d Start row.body more ended.byte ended.ends (subst (IsUnended d Start) (is ∙ first) unended)

splits_one : (d : ℕ) (rest rest' : List ℕ) (rows rows' : List Row) → AreEnded d rows → AreEnded d rows' → IsUnended d Start rest → IsUnended d Start rest'
    → rows_text rows ++ rest ≡ rows_text rows' ++ rest' → (rows ≡ rows') × (rest ≡ rest')
splits_one d rest rest' [] [] ended ended' unended unended' e = (refl, e)
splits_one d rest rest' [] (row' ∷ rows') ended ended' unended unended' e =
    absurd (unended_row d row' (rows_text rows' ++ rest') rest ended'.0 unended (e ∙ append_assoc (row_text row') (rows_text rows') rest'))
splits_one d rest rest' (row ∷ rows) [] ended ended' unended unended' e =
    absurd (unended_row d row (rows_text rows ++ rest) rest' ended.0 unended' (sym e ∙ append_assoc (row_text row) (rows_text rows) rest))
splits_one d rest rest' (row ∷ rows) (row' ∷ rows') ended ended' unended unended' e =
    let first = first_row_one d row row' (rows_text rows ++ rest) (rows_text rows' ++ rest') ended.0 ended'.0
    (sym (append_assoc (row_text row) (rows_text rows) rest) ∙ e ∙ append_assoc (row_text row') (rows_text rows') rest') in
    let others = splits_one d rest rest' rows rows' ended.1 ended'.1 unended unended' first.1 in
    (ap (λ r. r ∷ rows) first.0 ∙ ap (λ l. row' ∷ l) others.0, others.1)

pub rows_are_the_ones : RowsAreTheOnes
rows_are_the_ones d text rest rest' rows rows' ended ended' unended unended' is is' = splits_one d rest rest' rows rows' ended ended' unended unended' (sym is ∙ is')

-- ---- runs to the end of a text, and their output
counts_one : (s t u : State) → SameCounts s t → SameCounts s u → SameCounts t u
counts_one s t u first next = record {
  answered = next.answered ∙ sym first.answered;
  refused = next.refused ∙ sym first.refused;
  first = next.first ∙ sym first.first;
}

pub left_cancel : (xs ys zs : List ℕ) → xs ++ ys ≡ xs ++ zs → ys ≡ zs
left_cancel [] ys zs e = e
left_cancel (x ∷ xs) ys zs e = left_cancel xs ys zs (tail_is x x (xs ++ ys) (xs ++ zs) e)

pub right_cancel : (xs ys zs : List ℕ) → xs ++ zs ≡ ys ++ zs → xs ≡ ys
right_cancel [] [] zs e = refl
right_cancel [] (y ∷ ys) zs e = absurd (omega (arith, ap length e, length-append ys zs))
right_cancel (x ∷ xs) [] zs e = absurd (omega (arith, ap length e, length-append xs zs))
right_cancel (x ∷ xs) (y ∷ ys) zs e =
    ap (λ b. b ∷ xs) (head_is x y (xs ++ zs) (ys ++ zs) e) ∙ ap (λ l. y ∷ l) (right_cancel xs ys zs (tail_is x y (xs ++ zs) (ys ++ zs) e))

pub unended_none : (d : ℕ) (rest : List ℕ) → rest ≡ [] → IsUnended d Start rest
unfolding IsUnended
unended_none d rest is = rw is tt

module _ (A : List ℕ → AnswerText → Type 0) (one : (field : List ℕ) (a b : AnswerText) → A field a → A field b → a ≡ b) (keeps : Keeping) (d : ℕ) (columns : List Column) where
  pub last_unended : (s u : State) (rest part : List ℕ) → AnswersLast A keeps d columns s rest part u → IsUnended d Start rest
  last_unended s u rest part (inl none) = unended_none d rest none.0
  last_unended s u rest part (inr some) = subst (IsUnended d Start) (sym some.1) some.2.unended

  last_one : (s t u : State) (rest a b : List ℕ) → AnswersLast A keeps d columns s rest a t → AnswersLast A keeps d columns s rest b u → (a ≡ b) × SameCounts t u
  last_one s t u rest a b (inl first) (inl next) = (first.1 ∙ sym next.1, counts_one s t u first.2 next.2)
  last_one s t u rest a b (inl first) (inr next) = absurd (next.2.some (sym next.1 ∙ first.0))
  last_one s t u rest a b (inr first) (inl next) = absurd (first.2.some (sym first.1 ∙ next.0))
  last_one s t u rest a b (inr first) (inr next) =
      let row = row_is first.0 next.0 (sym first.1 ∙ next.1) (first.2.is_end ∙ sym next.2.is_end) in
      let same = row_one A one keeps d columns s first.3 next.3 next.0 a b (subst (λ r. AnswersRow A keeps d columns s r a first.3) row first.4) next.4 in
      (same.0, counts_one next.3 t u (subst (λ q. SameCounts q t) same.1 first.5) next.5)

  stops_one : (s t u : State) (mark bytes before a b left left' : List ℕ)
      → StopsText Done A keeps d columns mark bytes s t (Some left) (Some before) (Some a) → StopsText Done A keeps d columns mark bytes s u (Some left') (Some before) (Some b)
      → (a ≡ b) × SameCounts t u
  stops_one s t u mark bytes before a b left left' first next =
      let cut = splits_one d first.rest next.rest first.rows next.rows first.ended next.ended
      (last_unended first.between t first.rest first.part first.ends.1) (last_unended next.between u next.rest next.part next.ends.1) (sym first.split ∙ next.split) in
      let texts = rows_one A one keeps d columns s first.between next.between next.rows first.text next.text
      (subst (λ l. AnswersRows A keeps d columns s l first.text first.between) cut.0 first.answers) next.answers in
      let last = last_one next.between t u next.rest first.part next.part
      (subst (λ q. AnswersLast A keeps d columns q next.rest first.part t) texts.1 (subst (λ l. AnswersLast A keeps d columns first.between l first.part t) cut.1 first.ends.1)) next.ends.1 in (
        first.output ∙ ap (λ l. before ++ (mark ++ (l ++ first.part))) texts.0 ∙ ap (λ l. before ++ (mark ++ (next.text ++ l))) last.0 ∙ sym next.output,
        last.1,
      )

  runs_one : (s t u : State) (input left left' before a b : List ℕ) → RunsText Done A keeps d columns s t (Some input) (Some left) (Some before) (Some a)
      → RunsText Done A keeps d columns s u (Some input) (Some left') (Some before) (Some b) → (a ≡ b) × SameCounts t u
  runs_one s t u input left left' before a b first next =
      let whole : input ≡ first.bytes = first.taken ∙ ap (λ l. first.bytes ++ l) first.stops.ends.0 ∙ append-nil first.bytes in
      let whole' : input ≡ next.bytes = next.taken ∙ ap (λ l. next.bytes ++ l) next.stops.ends.0 ∙ append-nil next.bytes in
      let same : first.bytes ≡ next.bytes = sym whole ∙ whole' in
      let text = ap strip_bom same in
      let mark = right_cancel first.mark next.mark (strip_bom next.bytes) (ap (λ l. first.mark ++ l) (sym text) ∙ sym first.mark_is ∙ same ∙ next.mark_is) in
      stops_one s t u next.mark (strip_bom next.bytes) before a b left left'
      (subst (λ m. StopsText Done A keeps d columns m (strip_bom next.bytes) s t (Some left) (Some before) (Some a)) mark
      (subst (λ l. StopsText Done A keeps d columns first.mark l s t (Some left) (Some before) (Some a)) text first.stops)) next.stops

  pub run_one : (s t u : State) (input left left' before a b : List ℕ) → HasRun Done A keeps d columns s t (Some input) (Some left) (Some before) (Some a)
      → HasRun Done A keeps d columns s u (Some input) (Some left') (Some before) (Some b) → (a ≡ b) × SameCounts t u
  run_one s t u input left left' before a b (inl first) (inl next) = runs_one s t u input left left' before a b first next
  run_one s t u input left left' before a b (inl first) (inr next) = absurd (cc next.is_long)
  run_one s t u input left left' before a b (inr first) next = absurd (cc first.is_long)
