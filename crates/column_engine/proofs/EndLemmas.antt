-- The bytes taken and the counts of failures determine how a run ended.
use Rattle.std.proofs.Common.{◌≡◌, ◌<◌, ◌≤◌, ◌+◌, ◌-◌, ◌^◌, ℕ, zero, suc, List, [], ◌∷◌, ◌++◌, true, false, refl, sym, ap, ◌∙◌, subst, append_assoc, arith, length, length-append, take, inl, inr, ◌⊎◌, ⊎_elim}
use Rattle.std.proofs.lemmas.Bool.{false≢true}
use Rattle.std.specs.Prelude.{◌≢◌, ⊤, Option, Some, string_bytes}
use Rattle.csv.specs.Reading.{strip_bom}
use Rattle.line_engine.specs.AnswerText.{AnswerText}
use Rattle.line_engine.specs.Failures.{HasFailed}
use Rattle.column_engine.specs.Answers.{AnswersFields, AnswersRow, AnswersRows, AnyMissing, AppendsField, AreFound, IsFound, IsMissing, PassesHeader, State, needed}
use Rattle.column_engine.specs.Feeding.{IsTooLong}
use Rattle.column_engine.specs.Rows.{AreEnded, IsEnded, IsUnended, Row, ends_record, field_texts, place_after, places_after, raw_fields, row_text, rows_text}
use Rattle.column_engine.specs.Run.{AnswersLast, Ends, HasFailures, HasRun, IsEndless, IsNext, RefusesNext, RunsText}
use Rattle.column_engine.specs.Steps.{IsRecord, IsUnanswered, LacksColumn}
use Rattle.column_engine.specs.declared.columns.Column.{Column}
use Rattle.column_engine.specs.declared.columns.Column.TheVariants.{At, Named}
use Rattle.column_engine.specs.declared.columns.Keeping.{Keeping}
use Rattle.column_engine.specs.declared.columns.Range.{Range}
use Rattle.column_engine.specs.declared.end.Stop.{Stop}
use Rattle.column_engine.specs.declared.end.Stop.TheVariants.{Done, NoColumn, NoMemory, NoName, ReadFault, TooLong, Unclosed, WriteFault}
use Rattle.column_engine.specs.declared.place.Place.{Place}
use Rattle.column_engine.specs.declared.place.Place.TheVariants.{Quoted, Start}
use Rattle.column_engine.specs.Limits.{longest_record, longest_text}
use Rattle.column_engine.proofs.UniqueLemmas.{all_found_one, first_row_one, last_unended, named_none, right_cancel, row_is, row_one, unended_row}

-- ---- failures
not_failed : (n m : ℕ) → n < 2 ^ 64 - 1 → m ≡ n → HasFailed n m → ⊥
not_failed n m room same failed = omega (arith, room, same, failed)

-- an end without a failed read, a failed write or a lack of memory
pub IsCalm : Stop → Type 0
IsCalm Done = ⊤
IsCalm ReadFault = ⊥
IsCalm WriteFault = ⊥
IsCalm NoMemory = ⊥
IsCalm TooLong = ⊤
IsCalm Unclosed = ⊤
IsCalm (NoColumn count) = ⊤
IsCalm NoName = ⊤

pub never_read : IsCalm ReadFault → ⊥
unfolding IsCalm
never_read calm = calm

pub never_write : IsCalm WriteFault → ⊥
unfolding IsCalm
never_write calm = calm

calm_same : (read read' write write' : ℕ) (stop : Stop) → IsCalm stop → HasFailures read read' write write' stop → (read' ≡ read) × (write' ≡ write)
unfolding IsCalm
calm_same read read' write write' Done calm is = is
calm_same read read' write write' ReadFault calm is = absurd calm
calm_same read read' write write' WriteFault calm is = absurd calm
calm_same read read' write write' NoMemory calm is = absurd calm
calm_same read read' write write' TooLong calm is = is
calm_same read read' write write' Unclosed calm is = is
calm_same read read' write write' (NoColumn count) calm is = is
calm_same read read' write write' NoName calm is = is

kinds : (stop : Stop) → stop ≢ NoMemory → (stop ≡ ReadFault) ⊎ ((stop ≡ WriteFault) ⊎ IsCalm stop)
unfolding IsCalm
kinds Done other = inr (inr tt)
kinds ReadFault other = inl refl
kinds WriteFault other = inr (inl refl)
kinds NoMemory other = absurd (other refl)
kinds TooLong other = inr (inr tt)
kinds Unclosed other = inr (inr tt)
kinds (NoColumn count) other = inr (inr tt)
kinds NoName other = inr (inr tt)

-- ---- bytes beyond the longest record
long_row : (d : ℕ) (p : Place) (body more : List ℕ) (byte m : ℕ) → length body ≤ m → ends_record (places_after d p body) byte ≡ true
    → IsUnended d p (take (suc m) (body ++ byte ∷ more)) → ⊥
unfolding IsUnended places_after
long_row d p [] more byte m short ends unended = false≢true (sym unended.0 ∙ ends)
long_row d p (b ∷ body) more byte zero short ends unended = absurd (omega (arith, short))
long_row d p (b ∷ body) more byte (suc m) short ends unended = long_row d (place_after d p b) body more byte m (omega (arith, short)) ends unended.1

long_ended : (d : ℕ) (row : Row) (rest more : List ℕ) → IsEnded d row → length row.body ≤ longest_record → rest ≡ row_text row ++ more → IsTooLong d rest → ⊥
long_ended d row rest more ended short is long =
    let text : rest ≡ row.body ++ ended.byte ∷ more = is ∙ append_assoc row.body row.end more ∙ ap (λ l. row.body ++ (l ++ more)) ended.is_end in
    let count : longest_record + 1 ≡ suc longest_record = omega arith in
    long_row d Start row.body more ended.byte longest_record short ended.ends (subst (λ l. IsUnended d Start (take (suc longest_record) l)) text (subst (λ n. IsUnended d Start (take n rest)) count long.unended))

-- ---- a record is not both answered and refused
missing_found : (names : List (List ℕ)) (column : Column) (found : Range) → IsFound names column found → IsMissing names column → ⊥
missing_found names (At range) found is missing = missing
missing_found names (Named name range) found (inl is) missing = named_none (string_bytes name) names found.from is.0 missing.0
missing_found names (Named name range) found (inr is) missing = cc (is.1, missing.1)

any_found : (names : List (List ℕ)) (columns : List Column) (found : List Range) → AreFound names columns found → AnyMissing names columns → ⊥
any_found names [] found are missing = missing
any_found names (column ∷ columns) [] are missing = are
any_found names (column ∷ columns) (r ∷ rs) are (inl missing) = missing_found names column r are.0 missing
any_found names (column ∷ columns) (r ∷ rs) are (inr missing) = any_found names columns rs are.1 missing

module _ (A : List ℕ → AnswerText → Type 0) (one : (field : List ℕ) (a b : AnswerText) → A field a → A field b → a ≡ b) (keeps : Keeping) (d : ℕ) (columns : List Column) where
  some_short : (s t : State) (row : Row) (text : List ℕ)
      → PassesHeader d columns s row text t ⊎ (AnswersFields A keeps d s row text t ⊎ AppendsField A keeps d s row text t) → length row.body ≤ longest_record
  some_short s t row text (inl header) = header.short
  some_short s t row text (inr (inl fields)) = fields.short
  some_short s t row text (inr (inr one)) = one.short

  row_short : (s t : State) (row : Row) (text : List ℕ) → AnswersRow A keeps d columns s row text t → length row.body ≤ longest_record
  row_short s t row text (inl empty) = omega (arith, ap length empty.empty)
  row_short s t row text (inr some) = some_short s t row text some.1

  lacks_some : (s t : State) (row : Row) (text : List ℕ) (count : ℕ)
      → ((s.headed ≡ false) × LacksColumn d s.asked row count) ⊎ ((s.headed ≡ true) × ((found : List Range) × AreFound (field_texts d row.body) columns found × LacksColumn d found row count))
      → PassesHeader d columns s row text t ⊎ (AnswersFields A keeps d s row text t ⊎ AppendsField A keeps d s row text t) → ⊥
  lacks_some s t row text count (inl lacks) (inl header) = false≢true (sym lacks.0 ∙ header.next)
  lacks_some s t row text count (inl lacks) (inr (inl fields)) = absurd (omega (arith, lacks.1.few, lacks.1.count_is, fields.enough))
  lacks_some s t row text count (inl lacks) (inr (inr one)) = absurd (omega (arith, lacks.1.few, lacks.1.count_is, one.enough))
  lacks_some s t row text count (inr lacks) (inl header) =
      let same = all_found_one (field_texts d row.body) columns lacks.1.0 header.found lacks.1.1 header.are_found in
      absurd (omega (arith, lacks.1.2.few, lacks.1.2.count_is, header.enough, ap needed same))
  lacks_some s t row text count (inr lacks) (inr (inl fields)) = false≢true (sym fields.known ∙ lacks.0)
  lacks_some s t row text count (inr lacks) (inr (inr one)) = false≢true (sym one.known ∙ lacks.0)

  lacks_answered : (s t : State) (row : Row) (text : List ℕ) (count : ℕ) → IsUnanswered (NoColumn count) d columns s row → AnswersRow A keeps d columns s row text t → ⊥
  lacks_answered s t row text count lacks (inl empty) = lacks.0.some empty.empty
  lacks_answered s t row text count lacks (inr some) = lacks_some s t row text count lacks.1 some.1

  missing_some : (s t : State) (row : Row) (text : List ℕ) → s.headed ≡ true → AnyMissing (field_texts d row.body) columns
      → PassesHeader d columns s row text t ⊎ (AnswersFields A keeps d s row text t ⊎ AppendsField A keeps d s row text t) → ⊥
  missing_some s t row text headed missing (inl header) = any_found (field_texts d row.body) columns header.found header.are_found missing
  missing_some s t row text headed missing (inr (inl fields)) = false≢true (sym fields.known ∙ headed)
  missing_some s t row text headed missing (inr (inr one)) = false≢true (sym one.known ∙ headed)

  missing_answered : (s t : State) (row : Row) (text : List ℕ) → IsUnanswered NoName d columns s row → AnswersRow A keeps d columns s row text t → ⊥
  missing_answered s t row text missing (inl empty) = missing.0.some empty.empty
  missing_answered s t row text missing (inr some) = missing_some s t row text missing.1 missing.2 some.1

  -- the next record is the one that the rest starts with
  next_unended : (s : State) (row row' : Row) (rest more : List ℕ) (left : Option (List ℕ)) → IsNext d row' rest left → IsEnded d row → rest ≡ row_text row ++ more → row' ≡ row
  next_unended s row row' rest more left (inl next) ended is = (first_row_one d row' row next.0 more next.2 ended (sym next.1 ∙ is)).0
  next_unended s row row' rest more left (inr last) ended is = absurd (unended_row d row more rest ended (subst (IsUnended d Start) (sym last.1) last.2.unended) is)

  refused_answered : (stop : Stop) (s t u : State) (row : Row) (rest more text part : List ℕ) (left : Option (List ℕ))
      → (IsUnanswered stop d columns s row → AnswersRow A keeps d columns s row text t → ⊥)
      → RefusesNext stop d columns s rest left part u → IsEnded d row → rest ≡ row_text row ++ more → AnswersRow A keeps d columns s row text t → ⊥
  refused_answered stop s t u row rest more text part left never refuses ended is answers =
      let same = next_unended s row refuses.0 rest more left refuses.1 ended is in
      never (subst (IsUnanswered stop d columns s) same refuses.2) answers

  -- a run without a failure does not end before a record that it can answer
  not_before : (stop : Stop) (s t u : State) (row : Row) (rest more text part : List ℕ) (left : Option (List ℕ)) → IsCalm stop → Ends stop A keeps d columns s rest left part u
      → IsEnded d row → rest ≡ row_text row ++ more → AnswersRow A keeps d columns s row text t → ⊥
  unfolding IsCalm
  not_before Done s t u row rest more text part left calm ends ended is answers = unended_row d row more rest ended (last_unended A one keeps d columns s u rest part ends.1) is
  not_before ReadFault s t u row rest more text part left calm ends ended is answers = calm
  not_before WriteFault s t u row rest more text part left calm ends ended is answers = calm
  not_before NoMemory s t u row rest more text part left calm ends ended is answers = calm
  not_before TooLong s t u row rest more text part left calm ends ended is answers = long_ended d row rest more ended (row_short s t row text answers) is ends.0
  not_before Unclosed s t u row rest more text part left calm ends ended is answers = unended_row d row more rest ended ends.1 is
  not_before (NoColumn count) s t u row rest more text part left calm ends ended is answers =
      refused_answered (NoColumn count) s t u row rest more text part left (lacks_answered s t row text count) ends ended is answers
  not_before NoName s t u row rest more text part left calm ends ended is answers =
      refused_answered NoName s t u row rest more text part left (missing_answered s t row text) ends ended is answers

  -- ---- two ends with the same rest
  last_short : (s u : State) (rest part : List ℕ) → AnswersLast A keeps d columns s rest part u → length rest ≤ longest_record
  last_short s u rest part (inl none) = omega (arith, ap length none.0)
  last_short s u rest part (inr some) = omega (arith, ap length some.1, row_short s some.3 some.0 part some.4)

  done_long : (s u : State) (rest part : List ℕ) → AnswersLast A keeps d columns s rest part u → IsTooLong d rest → ⊥
  done_long s u rest part last long = absurd (omega (arith, last_short s u rest part last, long.many))

  start_open : Start ≢ Quoted
  start_open = λ e. cc e

  place_none : (rest : List ℕ) → rest ≡ [] → places_after d Start rest ≡ Start
  unfolding places_after
  place_none rest is = rw is refl

  done_unclosed : (s u : State) (rest part : List ℕ) → AnswersLast A keeps d columns s rest part u → places_after d Start rest ≡ Quoted → ⊥
  done_unclosed s u rest part (inl none) quoted = start_open (sym (place_none rest none.0) ∙ quoted)
  done_unclosed s u rest part (inr some) quoted = some.2.closed (ap (places_after d Start) (sym some.1) ∙ quoted)

  next_done : (s u : State) (row : Row) (rest part : List ℕ) (left : Option (List ℕ)) → AnswersLast A keeps d columns s rest part u → IsNext d row rest left
      → ((t : State) × (text : List ℕ) × AnswersRow A keeps d columns s row text t)
  next_done s u row rest part left last (inl next) =
      absurd (unended_row d row next.0 rest next.2 (last_unended A one keeps d columns s u rest part last) next.1)
  next_done s u row rest part left (inl none) (inr next) = absurd (next.2.some (sym next.1 ∙ none.0))
  next_done s u row rest part left (inr some) (inr next) =
      let same = row_is some.0 row (sym some.1 ∙ next.1) (some.2.is_end ∙ sym next.2.is_end) in
      (some.3, part, subst (λ r. AnswersRow A keeps d columns s r part some.3) same some.4)

  done_lacks : (s u v : State) (rest part part' : List ℕ) (left : Option (List ℕ)) (count : ℕ) → AnswersLast A keeps d columns s rest part u
      → RefusesNext (NoColumn count) d columns s rest left part' v → ⊥
  done_lacks s u v rest part part' left count last refuses =
      let answered = next_done s u refuses.0 rest part left last refuses.1 in
      lacks_answered s answered.0 refuses.0 answered.1 count refuses.2 answered.2

  done_missing : (s u v : State) (rest part part' : List ℕ) (left : Option (List ℕ)) → AnswersLast A keeps d columns s rest part u
      → RefusesNext NoName d columns s rest left part' v → ⊥
  done_missing s u v rest part part' left last refuses =
      let answered = next_done s u refuses.0 rest part left last refuses.1 in
      missing_answered s answered.0 refuses.0 answered.1 refuses.2 answered.2

  long_next : (row : Row) (rest : List ℕ) (left : Option (List ℕ)) → IsTooLong d rest → IsNext d row rest left → IsRecord row → ⊥
  long_next row rest left long (inl next) is = long_ended d row rest next.0 next.2 is.short next.1 long
  long_next row rest left long (inr next) is = absurd (omega (arith, long.many, ap length next.1, is.short))

  unclosed_next : (row : Row) (rest : List ℕ) (left : Option (List ℕ)) → IsUnended d Start rest → places_after d Start rest ≡ Quoted → IsNext d row rest left → ⊥
  unclosed_next row rest left unended quoted (inl next) = unended_row d row next.0 rest next.2 unended next.1
  unclosed_next row rest left unended quoted (inr next) = next.2.closed (ap (places_after d Start) (sym next.1) ∙ quoted)

  next_one : (row row' : Row) (rest : List ℕ) (left left' : Option (List ℕ)) → IsNext d row rest left → IsNext d row' rest left' → row ≡ row'
  next_one row row' rest left left' (inl first) (inl next) = (first_row_one d row row' first.0 next.0 first.2 next.2 (sym first.1 ∙ next.1)).0
  next_one row row' rest left left' (inl first) (inr next) = absurd (unended_row d row first.0 rest first.2 (subst (IsUnended d Start) (sym next.1) next.2.unended) first.1)
  next_one row row' rest left left' (inr first) (inl next) = absurd (unended_row d row' next.0 rest next.2 (subst (IsUnended d Start) (sym first.1) first.2.unended) next.1)
  next_one row row' rest left left' (inr first) (inr next) = row_is row row' (sym first.1 ∙ next.1) (first.2.is_end ∙ sym next.2.is_end)

  count_is : (s : State) (row : Row) (count : ℕ) → IsUnanswered (NoColumn count) d columns s row → count ≡ length (raw_fields d Start row.body)
  count_is s row count lacks = ⊎_elim (λ (first : (s.headed ≡ false) × LacksColumn d s.asked row count). first.1.count_is)
      (λ (later : (s.headed ≡ true) × ((found : List Range) × AreFound (field_texts d row.body) columns found × LacksColumn d found row count)). later.1.2.count_is)
      lacks.1

  lacks_one : (s u v : State) (rest part part' : List ℕ) (left left' : Option (List ℕ)) (count count' : ℕ) → RefusesNext (NoColumn count) d columns s rest left part u
      → RefusesNext (NoColumn count') d columns s rest left' part' v → count ≡ count'
  lacks_one s u v rest part part' left left' count count' first next =
      let same = next_one first.0 next.0 rest left left' first.1 next.1 in
      count_is s first.0 count first.2 ∙ ap (λ (r : Row). length (raw_fields d Start r.body)) same ∙ sym (count_is s next.0 count' next.2)

  lacks_missing : (s u v : State) (rest part part' : List ℕ) (left left' : Option (List ℕ)) (count : ℕ) → RefusesNext (NoColumn count) d columns s rest left part u
      → RefusesNext NoName d columns s rest left' part' v → ⊥
  lacks_missing s u v rest part part' left left' count first next =
      let same = next_one next.0 first.0 rest left' left next.1 first.1 in
      let missing = subst (IsUnanswered NoName d columns s) same next.2 in
      ⊎_elim (λ (headless : (s.headed ≡ false) × LacksColumn d s.asked first.0 count). false≢true (sym headless.0 ∙ missing.1))
      (λ (later : (s.headed ≡ true) × ((found : List Range) × AreFound (field_texts d first.0.body) columns found × LacksColumn d found first.0 count)).
      any_found (field_texts d first.0.body) columns later.1.0 later.1.1 missing.2)
      first.2.1

  here : (stop other : Stop) (s u v : State) (rest part part' : List ℕ) (left left' : Option (List ℕ)) → IsCalm stop → IsCalm other → Ends stop A keeps d columns s rest left part u
      → Ends other A keeps d columns s rest left' part' v → stop ≡ other
  unfolding IsCalm
  here Done Done s u v rest part part' left left' calm calm' ends ends' = refl
  here Done ReadFault s u v rest part part' left left' calm calm' ends ends' = absurd calm'
  here Done WriteFault s u v rest part part' left left' calm calm' ends ends' = absurd calm'
  here Done NoMemory s u v rest part part' left left' calm calm' ends ends' = absurd calm'
  here Done TooLong s u v rest part part' left left' calm calm' ends ends' = absurd (done_long s u rest part ends.1 ends'.0)
  here Done Unclosed s u v rest part part' left left' calm calm' ends ends' = absurd (done_unclosed s u rest part ends.1 ends'.2)
  here Done (NoColumn count') s u v rest part part' left left' calm calm' ends ends' = absurd (done_lacks s u v rest part part' left' count' ends.1 ends')
  here Done NoName s u v rest part part' left left' calm calm' ends ends' = absurd (done_missing s u v rest part part' left' ends.1 ends')
  here ReadFault other s u v rest part part' left left' calm calm' ends ends' = absurd calm
  here WriteFault other s u v rest part part' left left' calm calm' ends ends' = absurd calm
  here NoMemory other s u v rest part part' left left' calm calm' ends ends' = absurd calm
  here TooLong Done s u v rest part part' left left' calm calm' ends ends' = absurd (done_long s v rest part' ends'.1 ends.0)
  here TooLong ReadFault s u v rest part part' left left' calm calm' ends ends' = absurd calm'
  here TooLong WriteFault s u v rest part part' left left' calm calm' ends ends' = absurd calm'
  here TooLong NoMemory s u v rest part part' left left' calm calm' ends ends' = absurd calm'
  here TooLong TooLong s u v rest part part' left left' calm calm' ends ends' = refl
  here TooLong Unclosed s u v rest part part' left left' calm calm' ends ends' = absurd (omega (arith, ends.0.many, ends'.3))
  here TooLong (NoColumn count') s u v rest part part' left left' calm calm' ends ends' = absurd (long_next ends'.0 rest left' ends.0 ends'.1 ends'.2.0)
  here TooLong NoName s u v rest part part' left left' calm calm' ends ends' = absurd (long_next ends'.0 rest left' ends.0 ends'.1 ends'.2.0)
  here Unclosed Done s u v rest part part' left left' calm calm' ends ends' = absurd (done_unclosed s v rest part' ends'.1 ends.2)
  here Unclosed ReadFault s u v rest part part' left left' calm calm' ends ends' = absurd calm'
  here Unclosed WriteFault s u v rest part part' left left' calm calm' ends ends' = absurd calm'
  here Unclosed NoMemory s u v rest part part' left left' calm calm' ends ends' = absurd calm'
  here Unclosed TooLong s u v rest part part' left left' calm calm' ends ends' = absurd (omega (arith, ends'.0.many, ends.3))
  here Unclosed Unclosed s u v rest part part' left left' calm calm' ends ends' = refl
  here Unclosed (NoColumn count') s u v rest part part' left left' calm calm' ends ends' = absurd (unclosed_next ends'.0 rest left' ends.1 ends.2 ends'.1)
  here Unclosed NoName s u v rest part part' left left' calm calm' ends ends' = absurd (unclosed_next ends'.0 rest left' ends.1 ends.2 ends'.1)
  here (NoColumn count) Done s u v rest part part' left left' calm calm' ends ends' = absurd (done_lacks s v u rest part' part left count ends'.1 ends)
  here (NoColumn count) ReadFault s u v rest part part' left left' calm calm' ends ends' = absurd calm'
  here (NoColumn count) WriteFault s u v rest part part' left left' calm calm' ends ends' = absurd calm'
  here (NoColumn count) NoMemory s u v rest part part' left left' calm calm' ends ends' = absurd calm'
  here (NoColumn count) TooLong s u v rest part part' left left' calm calm' ends ends' = absurd (long_next ends.0 rest left ends'.0 ends.1 ends.2.0)
  here (NoColumn count) Unclosed s u v rest part part' left left' calm calm' ends ends' = absurd (unclosed_next ends.0 rest left ends'.1 ends'.2 ends.1)
  here (NoColumn count) (NoColumn count') s u v rest part part' left left' calm calm' ends ends' = ap (λ n. NoColumn n) (lacks_one s u v rest part part' left left' count count' ends ends')
  here (NoColumn count) NoName s u v rest part part' left left' calm calm' ends ends' = absurd (lacks_missing s u v rest part part' left left' count ends ends')
  here NoName Done s u v rest part part' left left' calm calm' ends ends' = absurd (done_missing s v u rest part' part left ends'.1 ends)
  here NoName ReadFault s u v rest part part' left left' calm calm' ends ends' = absurd calm'
  here NoName WriteFault s u v rest part part' left left' calm calm' ends ends' = absurd calm'
  here NoName NoMemory s u v rest part part' left left' calm calm' ends ends' = absurd calm'
  here NoName TooLong s u v rest part part' left left' calm calm' ends ends' = absurd (long_next ends.0 rest left ends'.0 ends.1 ends.2.0)
  here NoName Unclosed s u v rest part part' left left' calm calm' ends ends' = absurd (unclosed_next ends.0 rest left ends'.1 ends'.2 ends.1)
  here NoName (NoColumn count') s u v rest part part' left left' calm calm' ends ends' = absurd (lacks_missing s v u rest part' part left' left count' ends' ends)
  here NoName NoName s u v rest part part' left left' calm calm' ends ends' = refl

  -- ---- two runs over the same bytes
  ends_one : (stop other : Stop) (s t t' u v : State) (rows rows' : List Row) (rest rest' text text' part part' : List ℕ) (left left' : Option (List ℕ)) → IsCalm stop → IsCalm other
      → AreEnded d rows → AreEnded d rows' → AnswersRows A keeps d columns s rows text t → AnswersRows A keeps d columns s rows' text' t'
      → rows_text rows ++ rest ≡ rows_text rows' ++ rest' → Ends stop A keeps d columns t rest left part u → Ends other A keeps d columns t' rest' left' part' v → stop ≡ other
  ends_one stop other s t t' u v [] [] rest rest' text text' part part' left left' calm calm' ended ended' first next e ends ends' =
      here stop other s u v rest part part' left left' calm calm' (subst (λ q. Ends stop A keeps d columns q rest left part u) first.1 ends)
      (subst (λ l. Ends other A keeps d columns s l left' part' v) (sym e) (subst (λ q. Ends other A keeps d columns q rest' left' part' v) next.1 ends'))
  ends_one stop other s t t' u v [] (row ∷ rows') rest rest' text text' part part' left left' calm calm' ended ended' first next e ends ends' =
      absurd (not_before stop s next.2 u row rest (rows_text rows' ++ rest') next.0 part left calm (subst (λ q. Ends stop A keeps d columns q rest left part u) first.1 ends)
      ended'.0 (e ∙ append_assoc (row_text row) (rows_text rows') rest') next.3)
  ends_one stop other s t t' u v (row ∷ rows) [] rest rest' text text' part part' left left' calm calm' ended ended' first next e ends ends' =
      absurd (not_before other s first.2 v row rest' (rows_text rows ++ rest) first.0 part' left' calm' (subst (λ q. Ends other A keeps d columns q rest' left' part' v) next.1 ends')
      ended.0 (sym e ∙ append_assoc (row_text row) (rows_text rows) rest) first.3)
  ends_one stop other s t t' u v (row ∷ rows) (row' ∷ rows') rest rest' text text' part part' left left' calm calm' ended ended' first next e ends ends' =
      let same = first_row_one d row row' (rows_text rows ++ rest) (rows_text rows' ++ rest') ended.0 ended'.0
      (sym (append_assoc (row_text row) (rows_text rows) rest) ∙ e ∙ append_assoc (row_text row') (rows_text rows') rest') in
      let states = row_one A one keeps d columns s first.2 next.2 row' first.0 next.0 (subst (λ r. AnswersRow A keeps d columns s r first.0 first.2) same.0 first.3) next.3 in
      ends_one stop other next.2 t t' u v rows rows' rest rest' first.1 next.1 part part' left left' calm calm' ended.1 ended'.1
      (subst (λ q. AnswersRows A keeps d columns q rows first.1 t) states.1 first.4) next.4 same.1 ends ends'

  texts_one : (stop other : Stop) (s u v : State) (input left before a b : List ℕ) → IsCalm stop → IsCalm other
      → RunsText stop A keeps d columns s u (Some input) (Some left) (Some before) (Some a) → RunsText other A keeps d columns s v (Some input) (Some left) (Some before) (Some b) → stop ≡ other
  texts_one stop other s u v input left before a b calm calm' first next =
      let same : first.bytes ≡ next.bytes = right_cancel first.bytes next.bytes left (sym first.taken ∙ next.taken) in
      let x = first.stops in
      let y = next.stops in
      ends_one stop other s x.between y.between u v x.rows y.rows x.rest y.rest x.text y.text x.part y.part (Some left) (Some left) calm calm' x.ended y.ended x.answers y.answers
      (sym x.split ∙ ap strip_bom same ∙ y.split) x.ends y.ends

  -- a run over a text shorter than the longest has an end
  not_endless : (stop : Stop) (s u : State) (input left : List ℕ) (written written' : Option (List ℕ)) → length input < longest_text
      → IsEndless stop A keeps d columns s u (Some input) (Some left) written written' → ⊥
  not_endless stop s u input left written written' short endless =
      absurd (omega (arith, short, endless.many, ap length endless.so_far.taken, length-append endless.so_far.bytes left))

  pub calm_one : (stop other : Stop) (s u v : State) (input left before a b : List ℕ) → length input < longest_text → IsCalm stop → IsCalm other
      → HasRun stop A keeps d columns s u (Some input) (Some left) (Some before) (Some a) → HasRun other A keeps d columns s v (Some input) (Some left) (Some before) (Some b) → stop ≡ other
  calm_one stop other s u v input left before a b short calm calm' (inl first) (inl next) = texts_one stop other s u v input left before a b calm calm' first next
  calm_one stop other s u v input left before a b short calm calm' (inl first) (inr next) = absurd (not_endless other s v input left (Some before) (Some b) short next)
  calm_one stop other s u v input left before a b short calm calm' (inr first) next = absurd (not_endless stop s u input left (Some before) (Some a) short first)

module _ (read read' write write' : ℕ) (can_read : read < 2 ^ 64 - 1) (can_write : write < 2 ^ 64 - 1) where
  read_one : (stop other : Stop) → stop ≡ ReadFault → other ≢ NoMemory → HasFailures read read' write write' stop → HasFailures read read' write write' other → stop ≡ other
  read_one stop other is found f g = ⊎_elim
      (λ (same : other ≡ ReadFault). is ∙ sym same)
      (λ (others : (other ≡ WriteFault) ⊎ IsCalm other). ⊎_elim
      (λ (same : other ≡ WriteFault). absurd (not_failed write write' can_write (subst (HasFailures read read' write write') is f).1 (subst (HasFailures read read' write write') same g).1))
      (λ (calm : IsCalm other). absurd (not_failed read read' can_read (calm_same read read' write write' other calm g).0 (subst (HasFailures read read' write write') is f).0))
      others)
      (kinds other found)

  write_one : (stop other : Stop) → stop ≡ WriteFault → other ≢ NoMemory → HasFailures read read' write write' stop → HasFailures read read' write write' other → stop ≡ other
  write_one stop other is found f g = ⊎_elim
      (λ (same : other ≡ ReadFault). absurd (not_failed read read' can_read (subst (HasFailures read read' write write') is f).0 (subst (HasFailures read read' write write') same g).0))
      (λ (others : (other ≡ WriteFault) ⊎ IsCalm other). ⊎_elim
      (λ (same : other ≡ WriteFault). is ∙ sym same)
      (λ (calm : IsCalm other). absurd (not_failed write write' can_write (calm_same read read' write write' other calm g).1 (subst (HasFailures read read' write write') is f).1))
      others)
      (kinds other found)

pub ends_by_failures : (read read' write write' : ℕ) → read < 2 ^ 64 - 1 → write < 2 ^ 64 - 1 → (stop other : Stop) → stop ≢ NoMemory → other ≢ NoMemory
    → HasFailures read read' write write' stop → HasFailures read read' write write' other → (IsCalm stop → IsCalm other → stop ≡ other) → stop ≡ other
ends_by_failures read read' write write' can_read can_write stop other found found' f g both = ⊎_elim
    (λ (is : stop ≡ ReadFault). read_one read read' write write' can_read can_write stop other is found' f g)
    (λ (others : (stop ≡ WriteFault) ⊎ IsCalm stop). ⊎_elim
    (λ (is : stop ≡ WriteFault). write_one read read' write write' can_read can_write stop other is found' f g)
    (λ (calm : IsCalm stop). ⊎_elim
    (λ (is : other ≡ ReadFault). sym (read_one read read' write write' can_read can_write other stop is found g f))
    (λ (more : (other ≡ WriteFault) ⊎ IsCalm other). ⊎_elim
    (λ (is : other ≡ WriteFault). sym (write_one read read' write write' can_read can_write other stop is found g f))
    (λ (calm' : IsCalm other). both calm calm')
    more)
    (kinds other found'))
    others)
    (kinds stop found)
