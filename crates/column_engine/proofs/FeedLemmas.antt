-- Records, answered one after another.
use lib.Seq.{take-nil}
use Rattle.std.proofs.Common.{◌≡◌, ◌<◌, ◌≤◌, ◌+◌, ◌-◌, drop, get_or, drop-cons, add-one, List, ℕ, suc, [], ◌∷◌, ◌++◌, Bool, true, false, refl, sym, ap, ◌∙◌, append_assoc, append-nil, length, take, arith, subst, Option, length-append, take-append-drop, zero, inl, inr}
use Rattle.std.specs.Prelude.{◌==◌, if◌then◌else◌}
use Rattle.std.proofs.lemmas.Bool.{eqb-true}
use Rattle.std.proofs.lemmas.Grind.{flat_map-append}
use Rattle.std.proofs.lemmas.List.{take-append-le, length-take}
use Rattle.line_engine.specs.AnswerText.{AnswerText}
use Rattle.line_engine.specs.Inner.Progress.{Flushes}
use Rattle.column_engine.specs.Answers.{AnswersRow, AnswersRows, State, answers_text, needed, new_name, one_more}
use Rattle.column_engine.specs.Gathered.{GathersFields, GathersLonger, GathersPart}
use Rattle.column_engine.specs.Feeding.{BeginsWith, FailsFeed, FeedsRows, IsLeft, IsStanding, StopsAt}
use Rattle.column_engine.specs.Rows.{AreEnded, IsEnded, IsUnended, Row, ends_record, place_after, places_after, raw_fields, row_text, rows_text}
use Rattle.column_engine.specs.Steps.{FailsRow, IsHeader, PassesRow, SameCounts, StopsRow}
use Rattle.column_engine.specs.declared.columns.Range.{Range}
use Rattle.column_engine.specs.declared.end.Stop.{Stop}
use Rattle.column_engine.specs.declared.end.Stop.TheVariants.{Done, NoColumn, NoMemory, NoName, ReadFault, TooLong, Unclosed, WriteFault}
use Rattle.column_engine.specs.Limits.{longest_record}
use Rattle.std.specs.Prelude.{◌≢◌, Some, None, IfSome}
use Rattle.column_engine.specs.declared.columns.Column.{Column}
use Rattle.column_engine.specs.declared.columns.Keeping.{Keeping}
use Rattle.column_engine.specs.declared.place.Place.{Place}
use Rattle.column_engine.specs.declared.place.Place.TheVariants.{Start}
use Rattle.column_engine.proofs.GatherLemmas.{flushes_both, flushes_none}
use Rattle.column_engine.proofs.RowLemmas.{places_append, places_none, unended_append, unended_none}

pub ended_append : (d : ℕ) (rows more : List Row) → AreEnded d rows → AreEnded d more → AreEnded d (rows ++ more)
ended_append d [] more first next = next
ended_append d (row ∷ rows) more first next = (first.0, ended_append d rows more first.1 next)

pub standing_none : (d : ℕ) → IsStanding d [] Start
standing_none d = record { unended = unended_none d Start; place_is = sym (places_none d Start) }

-- the kept bytes and more bytes of their record
pub standing_more : (d : ℕ) (kept more : List ℕ) (place after : Place) → IsStanding d kept place → IsUnended d place more → after ≡ places_after d place more → IsStanding d (kept ++ more) after
standing_more d kept more place after before unended is = record {
  unended = unended_append d Start kept more before.unended (rw (← before.place_is) unended);
  place_is = is ∙ ap (λ p. places_after d p more) before.place_is ∙ sym (places_append d Start kept more);
}

pub ended_one : (d : ℕ) (kept part : List ℕ) (byte : ℕ) (place after : Place) → IsStanding d kept place → IsUnended d place part → after ≡ places_after d place part → ends_record after byte ≡ true
    → IsEnded d (record { body = kept ++ part; end = byte ∷ [] })
ended_one d kept part byte place after before unended is ends =
    let more = standing_more d kept part place after before unended is in
    record { unended = more.unended; byte = byte; ends = rw (← more.place_is) ends; is_end = refl }

pub standing_start : (d : ℕ) (kept : List ℕ) (place : Place) → kept ≡ [] → place ≡ Start → IsStanding d kept place
standing_start d kept place none start = rw (none, start) (standing_none d)

-- the record ends at the byte with index `end`
pub record EndsAt (d : ℕ) (from after : Place) (rest : List ℕ) (end : ℕ) : Type 0 where
  pub low : end < length rest
  pub unended : IsUnended d from (take end rest)
  pub is : after ≡ places_after d from (take end rest)
  pub ends : ends_record after (get_or rest end 0) ≡ true

pub ends_at : (d : ℕ) (from after : Place) (rest : List ℕ) (r : Option ℕ) (end : ℕ) → r ≡ Some end
    → IfSome r (λ end. (end < length rest) × IsUnended d from (take end rest) × (after ≡ places_after d from (take end rest)) × (ends_record after (get_or rest end 0) ≡ true))
    → EndsAt d from after rest end
ends_at d from after rest (Some at) end is all =
    let same : at ≡ end = cc in
    subst (EndsAt d from after rest) same (record { low = all.0; unended = all.1; is = all.2; ends = all.3 })
ends_at d from after rest None end is all = cc

unended_take : (d n : ℕ) (place : Place) (xs : List ℕ) → IsUnended d place xs → IsUnended d place (take n xs)
unfolding IsUnended
unended_take d n place [] all = subst (IsUnended d place) (sym (take-nil n)) tt
unended_take d zero place (x ∷ xs) all = tt
unended_take d (suc n) place (x ∷ xs) all = (all.0, unended_take d n (place_after d place x) xs all.1)

-- a record that exceeds the greatest length
pub long_standing : (d most : ℕ) (kept rest : List ℕ) (place after : Place) → IsStanding d kept place → IsUnended d place rest → after ≡ places_after d place rest
    → most < length kept + length rest → (most < length (kept ++ rest)) × IsUnended d Start (take (most + 1) (kept ++ rest))
long_standing d most kept rest place after before unended is many =
    (omega (arith, many, length-append kept rest), unended_take d (most + 1) Start (kept ++ rest) (standing_more d kept rest place after before unended is).unended)

pub long_ended : (d most : ℕ) (kept rest : List ℕ) (end : ℕ) (place after : Place) → IsStanding d kept place → EndsAt d place after rest end
    → most < length kept + end → (most < length (kept ++ rest)) × IsUnended d Start (take (most + 1) (kept ++ rest))
long_ended d most kept rest end place after before at many =
    let part = take end rest in
    let long : length part ≡ end = omega (arith, length-take end rest, at.low) in
    let both = long_standing d most kept part place after before at.unended at.is (omega (arith, many, long)) in
    let all : kept ++ rest ≡ (kept ++ part) ++ drop end rest = ap (λ l. kept ++ l) (sym (take-append-drop end rest)) ∙ sym (append_assoc kept part (drop end rest)) in
    let same : take (most + 1) (kept ++ rest) ≡ take (most + 1) (kept ++ part) = ap (take (most + 1)) all ∙ take-append-le (most + 1) (kept ++ part) (drop end rest) (omega (arith, both.0)) in
    (omega (arith, many, at.low, length-append kept rest), subst (IsUnended d Start) (sym same) both.1)

pub piece_one : (rest : List ℕ) (end : ℕ) → end < length rest → take (end + 1 - end) (drop end rest) ≡ get_or rest end 0 ∷ []
piece_one rest end low =
    let one : end + 1 - end ≡ 1 = omega arith in
    rw (one, drop-cons rest end 0 low) refl

unfoldable pub begins_with : (d : ℕ) (kept rest piece : List ℕ) (end : ℕ) (place after : Place) → IsStanding d kept place → EndsAt d place after rest end
    → piece ≡ get_or rest end 0 ∷ [] → BeginsWith d (record { body = kept ++ take end rest; end = piece }) (kept ++ rest)
unfolding ended_one
begins_with d kept rest piece end place after before at one =
    let byte = get_or rest end 0 in
    let part = take end rest in
    let more = drop (end + 1) rest in
    let here : rest ≡ part ++ (piece ++ more) =
    sym (take-append-drop end rest) ∙ ap (λ l. part ++ l) (drop-cons rest end 0 at.low ∙ ap (λ k. byte ∷ drop k rest) (sym (add-one end)) ∙ ap (λ l. l ++ more) (sym one)) in
    let ended = ended_one d kept part byte place after before at.unended at.is at.ends in
    record {
      rest = more;
      split = ap (λ l. kept ++ l) here ∙ sym (append_assoc kept part (piece ++ more)) ∙ sym (append_assoc (kept ++ part) piece more);
      ended = record { unended = ended.unended; byte = byte; ends = ended.ends; is_end = one };
    }

-- ---- the answer to one record
pub nil_of : (xs : List ℕ) → (length xs == 0) ≡ true → xs ≡ []
nil_of [] e = refl
nil_of (x ∷ xs) e = absurd (omega (arith, eqb-true (length (x ∷ xs)) 0 e))

pub some_of : (xs : List ℕ) → (length xs == 0) ≡ false → xs ≢ []
some_of [] e = let both : true ≡ false = e in cc
some_of (x ∷ xs) e = λ same. let long : suc (length xs) ≡ 0 = ap length same in omega (arith, long)

module _ (A : List ℕ → AnswerText → Type 0) (keeps : Keeping) (d : ℕ) (columns : List Column) where
  pub row_empty : (s : State) (row : Row) → row.body ≡ [] → AnswersRow A keeps d columns s row row.end s
  row_empty s row is = inl (record { empty = is; text_is = refl; after = refl })

  pub row_header : (s : State) (row : Row) (found : List Range) → length row.body ≤ longest_record → s.headed ≡ true → row.body ≢ [] → IsHeader d columns row.body found
      → AnswersRow A keeps d columns s row (row.body ++ new_name d s.into ++ row.end) (one_more (record s { headed = false; asked = found }) 0)
  row_header s row found short headed some is = inr (some, inl (record { next = headed; short = short; found = found; are_found = is.are_found; enough = is.enough; text_is = refl; after = refl }))

  pub row_fields : (s : State) (row : Row) (refused : ℕ) (held mid : List ℕ) (a b : Option (List ℕ)) → length row.body ≤ longest_record → s.headed ≡ false → s.into ≡ None → row.body ≢ [] → needed s.asked ≤ length (raw_fields d Start row.body)
      → (fields : GathersFields A keeps d s.asked 0 (raw_fields d Start row.body) refused held mid a b)
      → AnswersRow A keeps d columns s row (answers_text d 0 fields.answers ++ row.end) (one_more s refused)
  row_fields s row refused held mid a b short known in_place some enough fields =
      inr (some, inr (inl (record { known = known; in_place = in_place; short = short; enough = enough; answers = fields.answers; are = fields.are; text_is = refl; after = ap (one_more s) fields.refused_is })))

  pub passes_fields : (s : State) (row : Row) (refused : ℕ) (held mid new : List ℕ) (a b c : Option (List ℕ)) → length row.body ≤ longest_record → s.headed ≡ false → s.into ≡ None → row.body ≢ [] → needed s.asked ≤ length (raw_fields d Start row.body)
      → GathersFields A keeps d s.asked 0 (raw_fields d Start row.body) refused held mid a b → Flushes mid row.end new b c
      → PassesRow A keeps d columns row s (one_more s refused) held new a c
  passes_fields s row refused held mid new a b c short known in_place some enough fields last = record {
    text = answers_text d 0 fields.answers ++ row.end;
    answer = row_fields s row refused held mid a b short known in_place some enough fields;
    gathered = flushes_both held (answers_text d 0 fields.answers) row.end mid new a b c fields.gathered last;
  }

  -- a write failed among the fields or after them
  pub fails_fields : (s : State) (row : Row) (refused : ℕ) (held mid : List ℕ) (a b c : Option (List ℕ)) → length row.body ≤ longest_record → s.headed ≡ false → s.into ≡ None → row.body ≢ [] → needed s.asked ≤ length (raw_fields d Start row.body)
      → GathersFields A keeps d s.asked 0 (raw_fields d Start row.body) refused held mid a b → ((left : List ℕ) × Flushes mid row.end left b c)
      → FailsRow A keeps d columns row s held a c
  fails_fields s row refused held mid a b c short known in_place some enough fields last = record {
    text = answers_text d 0 fields.answers ++ row.end;
    part = inl (one_more s refused, row_fields s row refused held mid a b short known in_place some enough fields);
    left = last.0;
    gathered = flushes_both held (answers_text d 0 fields.answers) row.end mid last.0 a b c fields.gathered last.1;
  }

  pub fails_part : (s : State) (row : Row) (held : List ℕ) (a b : Option (List ℕ)) → s.headed ≡ false → s.into ≡ None → row.body ≢ []
      → GathersPart A keeps d s.asked (raw_fields d Start row.body) held a b → FailsRow A keeps d columns row s held a b
  fails_part s row held a b known in_place some part = record {
    text = answers_text d 0 part.fields.answers;
    part = inr (known, in_place, some, record { some = part.some; more = part.more; cut = part.cut; answers = part.fields.answers; are = part.fields.are; text_is = refl });
    left = part.left;
    gathered = part.fields.gathered;
  }

  -- a record with a new column was answered
  pub row_longer : (s : State) (name : List ℕ) (row : Row) (refused : Bool) (held new : List ℕ) (a b : Option (List ℕ)) → length row.body ≤ longest_record → s.headed ≡ false → s.into ≡ Some name
      → row.body ≢ [] → needed s.asked ≤ length (raw_fields d Start row.body) → (one : GathersLonger A keeps d s.asked row refused held new a b)
      → AnswersRow A keeps d columns s row (row.body ++ d ∷ one.text ++ row.end) (one_more s (if refused then 1 else 0))
  row_longer s name row refused held new a b short known into some enough one = inr (
    some,
    inr (inr (record {
      known = known;
      name = name;
      into = into;
      short = short;
      enough = enough;
      answer = record { text = one.text; refused = refused };
      is = one.answer;
      text_is = refl;
      after = refl;
    })),
  )

  pub passes_longer : (s : State) (name : List ℕ) (row : Row) (count : ℕ) (held new : List ℕ) (a b : Option (List ℕ)) → length row.body ≤ longest_record → s.headed ≡ false → s.into ≡ Some name
      → row.body ≢ [] → needed s.asked ≤ length (raw_fields d Start row.body)
      → ((refused : Bool) × (count ≡ (if refused then 1 else 0)) × GathersLonger A keeps d s.asked row refused held new a b)
      → PassesRow A keeps d columns row s (one_more s count) held new a b
  passes_longer s name row count held new a b short known into some enough one = rw one.1 (record {
    text = row.body ++ d ∷ one.2.text ++ row.end;
    answer = row_longer s name row one.0 held new a b short known into some enough one.2;
    gathered = one.2.gathered;
  })

  pub fails_longer : (s : State) (name : List ℕ) (row : Row) (held : List ℕ) (a b : Option (List ℕ)) → length row.body ≤ longest_record → s.headed ≡ false → s.into ≡ Some name
      → row.body ≢ [] → needed s.asked ≤ length (raw_fields d Start row.body)
      → ((refused : Bool) × (left : List ℕ) × GathersLonger A keeps d s.asked row refused held left a b) → FailsRow A keeps d columns row s held a b
  fails_longer s name row held a b short known into some enough one = record {
    text = row.body ++ d ∷ one.2.text ++ row.end;
    part = inl (one_more s (if one.0 then 1 else 0), row_longer s name row one.0 held one.1 a b short known into some enough one.2);
    left = one.1;
    gathered = one.2.gathered;
  }

  pub fails_whole : (s t : State) (row : Row) (text held : List ℕ) (a b : Option (List ℕ)) → AnswersRow A keeps d columns s row text t → ((left : List ℕ) × Flushes held text left a b)
      → FailsRow A keeps d columns row s held a b
  fails_whole s t row text held a b answer part = record { text = text; part = inl (t, answer); left = part.0; gathered = part.1 }

module _ (A : List ℕ → AnswerText → Type 0) (keeps : Keeping) (d : ℕ) (columns : List Column) where
  pub rows_append : (s t u : State) (rows more : List Row) (text most : List ℕ) → AnswersRows A keeps d columns s rows text t → AnswersRows A keeps d columns t more most u
      → AnswersRows A keeps d columns s (rows ++ more) (text ++ most) u
  rows_append s t u [] more text most first next = rw (first.0, ← first.1) next
  rows_append s t u (row ∷ rows) more text most first next =
      (first.0, first.1 ++ most, first.2, first.3, rows_append first.2 t u rows more first.1 most first.4 next, ap (λ l. l ++ most) first.5 ∙ append_assoc first.0 first.1 most)

  pub rows_one : (s t : State) (row : Row) (text : List ℕ) → AnswersRow A keeps d columns s row text t → AnswersRows A keeps d columns s (row ∷ []) text t
  rows_one s t row text one = (text, [], t, one, (refl, refl), sym (append-nil text))

  pub feeds_none : (bytes : List ℕ) (s : State) (held : List ℕ) (written : Option (List ℕ)) → FeedsRows A keeps d columns bytes bytes s s held held written written
  feeds_none bytes s held written = record { rows = []; split = refl; ended = tt; text = []; answers = (refl, refl); gathered = flushes_none held written }

  pub feeds_row : (bytes rest : List ℕ) (row : Row) (s t u : State) (held mid new : List ℕ) (a b c : Option (List ℕ))
      → FeedsRows A keeps d columns bytes rest s t held mid a b → (begins : BeginsWith d row rest) → PassesRow A keeps d columns row t u mid new b c
      → FeedsRows A keeps d columns bytes begins.rest s u held new a c
  feeds_row bytes rest row s t u held mid new a b c before begins one =
      let here : rest ≡ rows_text (row ∷ []) ++ begins.rest = begins.split ∙ ap (λ l. l ++ begins.rest) (sym (append-nil (row_text row))) in
      record {
        rows = before.rows ++ row ∷ [];
        split = before.split ∙ ap (λ l. rows_text before.rows ++ l) here ∙ sym (append_assoc (rows_text before.rows) (rows_text (row ∷ [])) begins.rest)
            ∙ ap (λ l. l ++ begins.rest) (sym (flat_map-append row_text before.rows (row ∷ [])));
        ended = ended_append d before.rows (row ∷ []) before.ended (begins.ended, tt);
        text = before.text ++ one.text;
        answers = rows_append s t u before.rows (row ∷ []) before.text one.text before.answers (rows_one t u row one.text one.answer);
        gathered = flushes_both held before.text one.text mid new a b c before.gathered one.gathered;
      }

  pub fails_long : (bytes rest : List ℕ) (s t : State) (held mid : List ℕ) (a b : Option (List ℕ)) → FeedsRows A keeps d columns bytes rest s t held mid a b
      → (longest_record < length rest) × IsUnended d Start (take (longest_record + 1) rest) → FailsFeed TooLong A keeps d columns bytes s t held mid a b
  fails_long bytes rest s t held mid a b fed long = record {
    rest = rest;
    between = t;
    part = [];
    stops = (record { many = long.0; unended = long.1 }, refl);
    counts = record { answered = refl; refused = refl; first = refl };
    left = mid;
    is_left = refl;
    rows = fed.rows;
    split = fed.split;
    ended = fed.ended;
    text = fed.text;
    answers = fed.answers;
    gathered = subst (λ l. Flushes held l mid a b) (sym (append-nil fed.text)) fed.gathered;
  }

  stops_here : (stop : Stop) (bytes rest : List ℕ) (row : Row) (s t u : State) (held mid new : List ℕ) (a b c : Option (List ℕ))
      → FeedsRows A keeps d columns bytes rest s t held mid a b → StopsAt stop A keeps d columns t rest [] → SameCounts t u → IsLeft stop mid new → c ≡ b
      → FailsFeed stop A keeps d columns bytes s u held new a c
  stops_here stop bytes rest row s t u held mid new a b c fed stops counts is_left same = record {
    rest = rest;
    between = t;
    part = [];
    stops = stops;
    counts = counts;
    left = mid;
    is_left = is_left;
    rows = fed.rows;
    split = fed.split;
    ended = fed.ended;
    text = fed.text;
    answers = fed.answers;
    gathered = subst (λ w. Flushes held (fed.text ++ []) mid a w) (sym same) (subst (λ l. Flushes held l mid a b) (sym (append-nil fed.text)) fed.gathered);
  }

  pub fails_row : (stop : Stop) (bytes rest : List ℕ) (row : Row) (s t u : State) (held mid new : List ℕ) (a b c : Option (List ℕ))
      → FeedsRows A keeps d columns bytes rest s t held mid a b → BeginsWith d row rest → StopsRow stop A keeps d columns row t mid new b c → SameCounts t u
      → FailsFeed stop A keeps d columns bytes s u held new a c
  fails_row WriteFault bytes rest row s t u held mid new a b c fed begins stops counts = record {
    rest = rest;
    between = t;
    part = stops.text;
    stops = (row, begins, stops.part);
    counts = counts;
    left = stops.left;
    is_left = tt;
    rows = fed.rows;
    split = fed.split;
    ended = fed.ended;
    text = fed.text;
    answers = fed.answers;
    gathered = flushes_both held fed.text stops.text mid stops.left a b c fed.gathered stops.gathered;
  }
  fails_row (NoColumn count) bytes rest row s t u held mid new a b c fed begins stops counts =
      stops_here (NoColumn count) bytes rest row s t u held mid new a b c fed (row, begins, stops.0, refl) counts (sym stops.1) stops.2
  fails_row NoName bytes rest row s t u held mid new a b c fed begins stops counts =
      stops_here NoName bytes rest row s t u held mid new a b c fed (row, begins, stops.0, refl) counts (sym stops.1) stops.2
  fails_row Done bytes rest row s t u held mid new a b c fed begins stops counts = absurd stops
  fails_row ReadFault bytes rest row s t u held mid new a b c fed begins stops counts = absurd stops
  fails_row NoMemory bytes rest row s t u held mid new a b c fed begins stops counts = absurd stops
  fails_row TooLong bytes rest row s t u held mid new a b c fed begins stops counts = absurd stops
  fails_row Unclosed bytes rest row s t u held mid new a b c fed begins stops counts = absurd stops

  pub feeds_both : (bytes more rest rest' : List ℕ) (s t u : State) (held mid new : List ℕ) (a b c : Option (List ℕ))
      → FeedsRows A keeps d columns bytes rest s t held mid a b → FeedsRows A keeps d columns (rest ++ more) rest' t u mid new b c
      → FeedsRows A keeps d columns (bytes ++ more) rest' s u held new a c
  feeds_both bytes more rest rest' s t u held mid new a b c first next = record {
    rows = first.rows ++ next.rows;
    split = ap (λ l. l ++ more) first.split ∙ append_assoc (rows_text first.rows) rest more ∙ ap (λ l. rows_text first.rows ++ l) next.split
        ∙ sym (append_assoc (rows_text first.rows) (rows_text next.rows) rest') ∙ ap (λ l. l ++ rest') (sym (flat_map-append row_text first.rows next.rows));
    ended = ended_append d first.rows next.rows first.ended next.ended;
    text = first.text ++ next.text;
    answers = rows_append s t u first.rows next.rows first.text next.text first.answers next.answers;
    gathered = flushes_both held first.text next.text mid new a b c first.gathered next.gathered;
  }
