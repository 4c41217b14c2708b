-- What an observer is told of the fields of a record, field by field.
use Rattle.std.proofs.Common.{◌≡◌, ◌≢◌, ◌<◌, ◌≤◌, ◌+◌, ◌∙◌, ℕ, suc, List, [], ◌∷◌, ◌++◌, Bool, true, false, length, refl, sym, ap, subst, arith, get_or, inr}
use Rattle.std.specs.Prelude.{Option, None, Some, Result, Ok, Err, OnOk, IfErr}
use Rattle.line_engine.specs.AnswerText.{AnswerText}
use Rattle.column_engine.specs.Answers.{State, first_asked, is_asked}
use Rattle.column_engine.specs.Gathered.{IsFieldAt, only}
use Rattle.column_engine.specs.Rows.{raw_fields}
use Rattle.column_engine.specs.Seen.{OnlySaw, SeesField, SeesFields, SeesIf, SeesInto, SeesRow, place_in}
use Rattle.column_engine.specs.declared.columns.Range.{Range}
use Rattle.column_engine.specs.declared.place.Place.TheVariants.{Start}
use Rattle.column_engine.specs.declared.records.Records.{Records}
use Rattle.column_engine.specs.declared.watch.FieldPlace.{FieldPlace}
use Rattle.column_engine.proofs.FieldsLemmas.{only_above, only_below, only_it}

module _ {W : Type 0} (A : List ℕ → AnswerText → Type 0) (Saw : W → FieldPlace → List ℕ → AnswerText → W → Type 0) where
  pub sees_unasked : (asks : Bool) (place : FieldPlace) (raw : List ℕ) (r : Records W) → asks ≡ false → OnlySaw (SeesIf asks A Saw place raw) r r
  sees_unasked asks place raw r is = (rw is refl, refl)

  pub sees_asked : (asks : Bool) (place : FieldPlace) (raw : List ℕ) (r z : Records W) → asks ≡ true → OnlySaw (SeesField A Saw place raw) r z
      → OnlySaw (SeesIf asks A Saw place raw) r z
  sees_asked asks place raw r z is one = (rw is one.0, one.1)

  module _ (asked : List Range) (at : ℕ → FieldPlace) where
    sees_append : (column : ℕ) (raws more : List (List ℕ)) (w v u : W) → SeesFields A Saw asked at column raws w v
        → SeesFields A Saw asked at (column + length raws) more v u → SeesFields A Saw asked at column (raws ++ more) w u
    sees_append column [] more w v u first next =
        let same : column + 0 ≡ column = omega arith in
        subst (λ c. SeesFields A Saw asked at c more w u) same (subst (λ x. SeesFields A Saw asked at (column + 0) more x u) first next)
    sees_append column (raw ∷ raws) more w v u first next =
        let same : column + suc (length raws) ≡ column + 1 + length raws = omega arith in
        (first.0, first.1, sees_append (column + 1) raws more first.0 v u first.2 (subst (λ c. SeesFields A Saw asked at c more v u) same next))

    sees_none : (column : ℕ) (raws : List (List ℕ)) (w : W) → ((k : ℕ) → column ≤ k → k < column + length raws → is_asked asked k ≡ false)
        → SeesFields A Saw asked at column raws w w
    sees_none column [] w none = refl
    sees_none column (raw ∷ raws) w none = (
      w,
      rw (none column (omega arith) (omega arith)) refl,
      sees_none (column + 1) raws w (λ k low high. none k (omega arith) (omega arith)),
    )

  -- no field was answered yet
  pub sees_first : (asked : List Range) (r : Records W) → OnlySaw (SeesFields A Saw asked (place_in r) 0 []) r r
  sees_first asked r = (refl, refl)

  -- one more field was answered, or passed over
  pub sees_next : (asked : List Range) (some : List (List ℕ)) (raw : List ℕ) (column : ℕ) (r m z : Records W) → column ≡ length some
      → OnlySaw (SeesFields A Saw asked (place_in r) 0 some) r m → OnlySaw (SeesIf (is_asked asked column) A Saw (place_in m column) raw) m z
      → OnlySaw (SeesFields A Saw asked (place_in r) 0 (some ++ raw ∷ [])) r z
  sees_next asked some raw column r m z is first one =
      let place : column ≡ 0 + length some = omega (arith, is) in
      let here : SeesIf (is_asked asked column) A Saw (place_in r column) raw m.observer z.observer =
      subst (λ (x : Records W). SeesIf (is_asked asked column) A Saw (place_in x column) raw m.observer z.observer) first.1 one.0 in
      let last : SeesFields A Saw asked (place_in r) column (raw ∷ []) m.observer z.observer = (z.observer, here, refl) in
      let moved : record m { observer = z.observer } ≡ record r { observer = z.observer } = ap (λ (x : Records W). let y : Records W = record x { observer = z.observer } in y) first.1 in (
        sees_append asked (place_in r) 0 some (raw ∷ []) r.observer m.observer z.observer first.0
            (subst (λ c. SeesFields A Saw asked (place_in r) c (raw ∷ []) m.observer z.observer) place last),
        one.1 ∙ moved,
      )

  -- no later field is requested
  pub sees_rest : (asked : List Range) (some rest : List (List ℕ)) (column : ℕ) (r z : Records W) → column ≡ length some
      → ((k : ℕ) → column ≤ k → k < column + length rest → is_asked asked k ≡ false)
      → OnlySaw (SeesFields A Saw asked (place_in r) 0 some) r z → OnlySaw (SeesFields A Saw asked (place_in r) 0 (some ++ rest)) r z
  sees_rest asked some rest column r z is none first =
      let place : column ≡ 0 + length some = omega (arith, is) in (
        sees_append asked (place_in r) 0 some rest r.observer z.observer z.observer first.0
            (subst (λ c. SeesFields A Saw asked (place_in r) c rest z.observer z.observer) place (sees_none asked (place_in r) column rest z.observer none)),
        first.1,
      )

  -- the only requested field was answered
  pub sees_only : (d : ℕ) (body raw : List ℕ) (column start end : ℕ) (r z : Records W) (at : IsFieldAt d body column start end)
      → raw_fields d Start body ≡ at.some ++ raw ∷ at.more → OnlySaw (SeesField A Saw (place_in r column) raw) r z
      → OnlySaw (SeesFields A Saw (only column) (place_in r) 0 (raw_fields d Start body)) r z
  sees_only d body raw column start end r z at cut one =
      let place : column ≡ 0 + length at.some = omega (arith, at.column_is) in
      let low = sees_none (only column) (place_in r) 0 at.some r.observer (λ k from to. only_below column k (omega (arith, to, at.column_is))) in
      let high = sees_none (only column) (place_in r) (column + 1) at.more z.observer (λ k from to. only_above column k (omega (arith, from))) in
      let here : SeesIf (is_asked (only column) column) A Saw (place_in r column) raw r.observer z.observer = rw (only_it column) one.0 in
      let later : SeesFields A Saw (only column) (place_in r) column (raw ∷ at.more) r.observer z.observer = (z.observer, here, high) in (
        subst (λ l. SeesFields A Saw (only column) (place_in r) 0 l r.observer z.observer) (sym cut)
            (sees_append (only column) (place_in r) 0 at.some (raw ∷ at.more) r.observer r.observer z.observer low
            (subst (λ c. SeesFields A Saw (only column) (place_in r) c (raw ∷ at.more) r.observer z.observer) place later)),
        one.1,
      )

  -- the field at another index that equals it
  pub sees_at : (column column' : ℕ) (raw raw' : List ℕ) (r z : Records W) → column ≡ column' → raw ≡ raw' → OnlySaw (SeesField A Saw (place_in r column) raw) r z
      → OnlySaw (SeesField A Saw (place_in r column') raw') r z
  sees_at column column' raw raw' r z there is one =
      subst (λ k. OnlySaw (SeesField A Saw (place_in r k) raw') r z) there (subst (λ l. OnlySaw (SeesField A Saw (place_in r column) l) r z) is one)

  -- the answers replace their fields
  pub sees_in_place : (into : Option (List ℕ)) (asked asked' : List Range) (raws : List (List ℕ)) (r z : Records W) → into ≡ None → asked ≡ asked'
      → OnlySaw (SeesFields A Saw asked (place_in r) 0 raws) r z → OnlySaw (SeesInto into A Saw asked' (place_in r) raws) r z
  sees_in_place into asked asked' raws r z none is all = rw none (subst (λ l. OnlySaw (SeesFields A Saw l (place_in r) 0 raws) r z) is all)

  -- the answer goes into a new column
  pub sees_new : (into : Option (List ℕ)) (name : List ℕ) (asked asked' : List Range) (raws : List (List ℕ)) (r z : Records W) → into ≡ Some name → asked ≡ asked'
      → OnlySaw (SeesField A Saw (place_in r (first_asked asked)) (get_or raws (first_asked asked) [])) r z → OnlySaw (SeesInto into A Saw asked' (place_in r) raws) r z
  sees_new into name asked asked' raws r z some is one =
      rw some (subst (λ l. OnlySaw (SeesField A Saw (place_in r (first_asked l)) (get_or raws (first_asked l) [])) r z) is one)

  -- a record other than the header was answered
  pub sees_record : (d : ℕ) (s : State) (body : List ℕ) (r z : Records W) → s.headed ≡ false → body ≢ []
      → OnlySaw (SeesInto s.into A Saw s.asked (place_in r) (raw_fields d Start body)) r z → SeesRow A Saw d s (place_in r) body r.observer z.observer
  sees_record d s body r z known some all = inr (some, rw known all.0)

  -- the header was passed over
  pub sees_header : (d : ℕ) (s : State) (body : List ℕ) (r z : Records W) → s.headed ≡ true → body ≢ [] → z.observer ≡ r.observer
      → SeesRow A Saw d s (place_in r) body r.observer z.observer
  sees_header d s body r z next some same = inr (some, rw next same)

pub observer_same : {W : Type 0} (r z : Records W) → z ≡ r → z.observer ≡ r.observer
observer_same {W = W} r z same = ap (λ (x : Records W). x.observer) same

pub on_ok_all : {T E : Type 0} (result : Result T E) (P : Type 0) → P → OnOk result P
on_ok_all result P p = elim result as (λ r. OnOk r P) [ Ok x ↦ p | Err e ↦ tt ]

pub on_ok_so : {T E : Type 0} (result : Result T E) (P Q : Type 0) → (P → Q) → OnOk result P → OnOk result Q
on_ok_so result P Q so = elim result as (λ r. OnOk r P → OnOk r Q) [ Ok x ↦ so | Err e ↦ λ h. h ]

pub if_err_so : {T E : Type 0} (result : Result T E) (P Q : E → Type 0) → ((e : E) → P e → Q e) → IfErr result P → IfErr result Q
if_err_so result P Q so = elim result as (λ r. IfErr r P → IfErr r Q) [ Ok x ↦ λ h. h | Err e ↦ so e ]
