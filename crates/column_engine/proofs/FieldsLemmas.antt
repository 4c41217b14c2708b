-- The fields of a record that are passed over without an answer.
use Rattle.std.proofs.Common.{◌≡◌, ◌==◌, ◌<◌, ◌≤◌, ◌+◌, ◌-◌, ℕ, suc, List, [], ◌∷◌, ◌++◌, Bool, true, false, length, take, drop, refl, sym, ap, ◌∙◌, append_assoc, append-nil, arith, if◌then◌else◌, subst, map, get_or, drop-cons, ◌^◌, zero, ⊎_elim, length-append}
use Rattle.std.proofs.lemmas.Bool.{cases_lt}
use Rattle.std.proofs.lemmas.Bool.Decides.{nat_tests}
use Rattle.std.proofs.lemmas.List.{drop-drop, get_or-drop, drop_all, length-drop, take_all, take_rest}
use Rattle.std.proofs.Math.Seq.{take-add}
use Rattle.std.specs.Prelude.{Option}
use Rattle.line_engine.specs.AnswerText.{AnswerText}
use Rattle.line_engine.specs.Inner.Progress.{Flushes}
use Rattle.line_engine.specs.Lines.{onto_first}
use Rattle.column_engine.specs.Answers.{AreAnswers, FieldAnswer, IsAnswer, answers_text, before_field, count_refused, is_asked}
use Rattle.column_engine.specs.Gathered.{GathersAnswer, GathersField, GathersFields, GathersPart, IsFieldAt, ahead, only, unanswered}
use Rattle.column_engine.specs.Rows.{ends_field, raw_fields, within_after}
use Rattle.column_engine.specs.declared.columns.Keeping.{Keeping}
use Rattle.column_engine.specs.declared.columns.Range.{Range}
use Rattle.column_engine.specs.declared.place.Place.{Place}
use Rattle.column_engine.specs.declared.place.Place.TheVariants.{Start}
use Rattle.column_engine.proofs.GatherLemmas.{before_later, fields_one, flushes_both, flushes_more, flushes_on, flushes_push, part_all, part_one}
use Rattle.column_engine.proofs.PlaceLemmas.{ends_is}
use Rattle.column_engine.proofs.RowLemmas.{first_field, raw_end, raw_none, raw_on}

-- ---- the bytes still to be gathered
slice_join : (body : List ℕ) (from start end : ℕ) → from ≤ start → start ≤ end
    → take (end - from) (drop from body) ≡ take (start - from) (drop from body) ++ take (end - start) (drop start body)
slice_join body from start end low high =
    let parts : end - from ≡ (start - from) + (end - start) = omega (arith, low, high) in
    let place : from + (start - from) ≡ start = omega (arith, low) in
    ap (λ n. take n (drop from body)) parts ∙ take-add (start - from) (end - start) (drop from body)
    ∙ ap (λ l. take (start - from) (drop from body) ++ take (end - start) l) (drop-drop (start - from) from body ∙ ap (λ n. drop n body) place)

ahead_more : (held body : List ℕ) (from start end : ℕ) → from ≤ start → start ≤ end → ahead held body from end ≡ ahead held body from start ++ take (end - start) (drop start body)
ahead_more held body from start end low high =
    ap (λ l. held ++ l) (slice_join body from start end low high) ∙ sym (append_assoc held (take (start - from) (drop from body)) (take (end - start) (drop start body)))

ahead_none : (held body : List ℕ) (end : ℕ) → ahead held body end end ≡ held
ahead_none held body end =
    let none : end - end ≡ 0 = omega arith in
    ap (λ n. held ++ take n (drop end body)) none ∙ append-nil held

-- the bytes up to the next field, with the delimiter
pub ahead_next : (held body : List ℕ) (d from end : ℕ) → from ≤ end → take 1 (drop end body) ≡ d ∷ [] → ahead held body from end ++ d ∷ [] ≡ ahead held body from (end + 1)
ahead_next held body d from end low one =
    let single : end + 1 - end ≡ 1 = omega arith in
    sym (ahead_more held body from end (end + 1) low (omega arith) ∙ ap (λ n. ahead held body from end ++ take n (drop end body)) single ∙ ap (λ l. ahead held body from end ++ l) one)

-- the bytes up to the end of the record
pub ahead_rest : (held body : List ℕ) (from start : ℕ) → from ≤ start → start ≤ length body → ahead held body from start ++ drop start body ≡ held ++ take (length body - from) (drop from body)
ahead_rest held body from start low high =
    let all : take (length body - start) (drop start body) ≡ drop start body = take_rest body start in
    ap (λ l. ahead held body from start ++ l) (sym all) ∙ sym (ahead_more held body from start (length body) low high)

module _ (A : List ℕ → AnswerText → Type 0) (keeps : Keeping) (d : ℕ) where
  pub pass_unasked : (asks : Bool) (held body : List ℕ) (from start end : ℕ) (a : Option (List ℕ)) → asks ≡ false → from ≤ start → start ≤ end
      → GathersField A keeps d asks (take (end - start) (drop start body)) false (ahead held body from start) (ahead held body from end) a a
  pass_unasked asks held body from start end a is low high = rw is (record {
    text = take (end - start) (drop start body);
    answer = refl;
    gathered = rw (ahead_more held body from start end low high) (flushes_push (ahead held body from start) (take (end - start) (drop start body)) a);
  })

  pub pass_part : (asks refused : Bool) (held left body raw : List ℕ) (from start : ℕ) (a b : Option (List ℕ)) → asks ≡ true
      → GathersAnswer A keeps d (take (start - from) (drop from body)) raw refused held left a b
      → GathersField A keeps d asks raw refused (ahead held body from start) left a b
  pass_part asks refused held left body raw from start a b is one = rw is (record {
    text = one.text;
    answer = one.answer;
    gathered = flushes_on held (take (start - from) (drop from body)) one.text left a b one.gathered;
  })

  pub pass_asked : (asks refused : Bool) (held new body raw : List ℕ) (from start end : ℕ) (a b : Option (List ℕ)) → asks ≡ true
      → GathersAnswer A keeps d (take (start - from) (drop from body)) raw refused held new a b
      → GathersField A keeps d asks raw refused (ahead held body from start) (ahead new body end end) a b
  pass_asked asks refused held new body raw from start end a b is one = rw (ahead_none new body end) (pass_part asks refused held new body raw from start a b is one)

-- ---- fields joined with delimiters, and their count
unfoldable pub joined_more : ℕ → List (List ℕ) → List ℕ
joined_more d [] = []
joined_more d (raw ∷ raws) = d ∷ raw ++ joined_more d raws

unfoldable pub joined : ℕ → List (List ℕ) → List ℕ
joined d [] = []
joined d (raw ∷ raws) = raw ++ joined_more d raws

pub IsSome : List (List ℕ) → Type 0
IsSome raws = (first : List ℕ) × (rest : List (List ℕ)) × (raws ≡ first ∷ rest)

some_none : (d : ℕ) (place : Place) → IsSome (raw_fields d place [])
unfolding IsSome
some_none d place = ([], [], raw_none d place)

some_one : (d : ℕ) (place : Place) (b : ℕ) (rest : List ℕ) (ends : Bool) → ends_field d place b ≡ ends → IsSome (raw_fields d (within_after place b) rest)
    → IsSome (raw_fields d place (b ∷ rest))
unfolding IsSome
some_one d place b rest true yea next = ([], raw_fields d Start rest, raw_end d place b rest yea)
some_one d place b rest false nay next = (b ∷ next.0, next.1, raw_on d place b rest nay ∙ ap (onto_first b) next.2)

pub raw_some : (d : ℕ) (place : Place) (body : List ℕ) → IsSome (raw_fields d place body)
raw_some d place [] = some_none d place
raw_some d place (b ∷ rest) = some_one d place b rest (ends_field d place b) refl (raw_some d (within_after place b) rest)

more_is : (d : ℕ) (raws : List (List ℕ)) → IsSome raws → joined_more d raws ≡ d ∷ joined d raws
unfolding IsSome joined joined_more
more_is d raws some = rw some.2 refl

joined_onto : (d b : ℕ) (raws : List (List ℕ)) → IsSome raws → joined d (onto_first b raws) ≡ b ∷ joined d raws
unfolding IsSome joined
joined_onto d b raws some = rw some.2 refl

joined_none : (d : ℕ) (place : Place) → joined d (raw_fields d place []) ≡ []
unfolding joined joined_more
joined_none d place = ap (joined d) (raw_none d place)

joined_first : (d : ℕ) (raws : List (List ℕ)) → joined d ([] ∷ raws) ≡ joined_more d raws
unfolding joined
joined_first d raws = refl

joined_one : (d : ℕ) (place : Place) (b : ℕ) (rest : List ℕ) (ends : Bool) → ends_field d place b ≡ ends → joined d (raw_fields d Start rest) ≡ rest
    → joined d (raw_fields d (within_after place b) rest) ≡ rest → joined d (raw_fields d place (b ∷ rest)) ≡ b ∷ rest
joined_one d place b rest true yea first next =
    ap (joined d) (raw_end d place b rest yea) ∙ joined_first d (raw_fields d Start rest) ∙ more_is d (raw_fields d Start rest) (raw_some d Start rest) ∙ ap (λ l. d ∷ l) first
    ∙ ap (λ x. x ∷ rest) (sym (ends_is d place b yea))
joined_one d place b rest false nay first next =
    ap (joined d) (raw_on d place b rest nay) ∙ joined_onto d b (raw_fields d (within_after place b) rest) (raw_some d (within_after place b) rest) ∙ ap (λ l. b ∷ l) next

-- the fields of a record, joined with delimiters, are its bytes
pub joined_is : (d : ℕ) (place : Place) (body : List ℕ) → joined d (raw_fields d place body) ≡ body
joined_is d place [] = joined_none d place
joined_is d place (b ∷ rest) = joined_one d place b rest (ends_field d place b) refl (joined_is d Start rest) (joined_is d (within_after place b) rest)

-- a record has at most one field more than bytes
length_onto : (b : ℕ) (raws : List (List ℕ)) → length (onto_first b raws) ≡ length raws
length_onto b [] = refl
length_onto b (raw ∷ raws) = refl

few_one : (d : ℕ) (place : Place) (b : ℕ) (rest : List ℕ) (ends : Bool) → ends_field d place b ≡ ends → length (raw_fields d Start rest) ≤ length rest + 1
    → length (raw_fields d (within_after place b) rest) ≤ length rest + 1 → length (raw_fields d place (b ∷ rest)) ≤ length (b ∷ rest) + 1
few_one d place b rest true yea first next = omega (arith, ap length (raw_end d place b rest yea), first)
few_one d place b rest false nay first next = omega (arith, ap length (raw_on d place b rest nay), length_onto b (raw_fields d (within_after place b) rest), next)

pub fields_few : (d : ℕ) (place : Place) (body : List ℕ) → length (raw_fields d place body) ≤ length body + 1
fields_few d place [] = omega (arith, ap length (raw_none d place))
fields_few d place (b ∷ rest) = few_one d place b rest (ends_field d place b) refl (fields_few d Start rest) (fields_few d (within_after place b) rest)

texts_more : (d column : ℕ) (raws : List (List ℕ)) → answers_text d (column + 1) (map unanswered raws) ≡ joined_more d raws
unfolding joined_more
texts_more d column [] = refl
texts_more d column (raw ∷ raws) =
    let later : (column + 1 == 0) ≡ false = grind arith in
    ap (λ l. (before_field d (column + 1) ++ raw) ++ l) (texts_more d (column + 1) raws) ∙ rw later refl

texts_kept : (d column : ℕ) (raws : List (List ℕ)) → IsSome raws → answers_text d column (map unanswered raws) ≡ before_field d column ++ joined d raws
unfolding IsSome joined
texts_kept d column raws some = rw some.2
    (ap (λ l. (before_field d column ++ some.0) ++ l) (texts_more d column some.1) ∙ append_assoc (before_field d column) some.0 (joined_more d some.1))

none_refused : (raws : List (List ℕ)) → count_refused (map unanswered raws) ≡ 0
none_refused [] = refl
none_refused (raw ∷ raws) = omega (arith, none_refused raws)

module _ (A : List ℕ → AnswerText → Type 0) (keeps : Keeping) (d : ℕ) (asked : List Range) where
  answers_kept : (column : ℕ) (raws : List (List ℕ)) → ((k : ℕ) → column ≤ k → k < column + length raws → is_asked asked k ≡ false)
      → AreAnswers A keeps d asked column raws (map unanswered raws)
  answers_kept column [] none = tt
  answers_kept column (raw ∷ raws) none = (
    rw (none column (omega arith) (omega arith)) refl,
    answers_kept (column + 1) raws (λ k low high. none k (omega arith) (omega arith)),
  )

  answers_append : (column : ℕ) (raws more : List (List ℕ)) (answers later : List FieldAnswer) → AreAnswers A keeps d asked column raws answers
      → AreAnswers A keeps d asked (column + length raws) more later → AreAnswers A keeps d asked column (raws ++ more) (answers ++ later)
  answers_append column [] more [] later first next =
      let same : column + 0 ≡ column = omega arith in
      subst (λ c. AreAnswers A keeps d asked c more later) same next
  answers_append column [] more (a ∷ answers) later first next = absurd first
  answers_append column (raw ∷ raws) more [] later first next = absurd first
  answers_append column (raw ∷ raws) more (a ∷ answers) later first next =
      let same : column + suc (length raws) ≡ column + 1 + length raws = omega arith in
      (first.0, answers_append (column + 1) raws more answers later first.1 (subst (λ c. AreAnswers A keeps d asked c more later) same next))

  texts_append : (column : ℕ) (raws : List (List ℕ)) (answers later : List FieldAnswer) → AreAnswers A keeps d asked column raws answers
      → answers_text d column (answers ++ later) ≡ answers_text d column answers ++ answers_text d (column + length raws) later
  texts_append column [] [] later first = let same : column ≡ column + 0 = omega arith in ap (λ c. answers_text d c later) same
  texts_append column [] (a ∷ answers) later first = absurd first
  texts_append column (raw ∷ raws) [] later first = absurd first
  texts_append column (raw ∷ raws) (a ∷ answers) later first =
      let same : column + 1 + length raws ≡ column + suc (length raws) = omega arith in
      ap (λ l. (before_field d column ++ a.text) ++ l)
      (texts_append (column + 1) raws answers later first.1 ∙ ap (λ c. answers_text d (column + 1) answers ++ answers_text d c later) same)
      ∙ sym (append_assoc (before_field d column ++ a.text) (answers_text d (column + 1) answers) (answers_text d (column + suc (length raws)) later))

  refused_append : (answers : List FieldAnswer) (raws : List (List ℕ)) → count_refused (answers ++ map unanswered raws) ≡ count_refused answers
  refused_append [] raws = none_refused raws
  refused_append (a ∷ answers) raws = ap (λ n. (if a.refused then 1 else 0) + n) (refused_append answers raws)

  -- the fields after the last requested one, and the bytes still to be gathered
  pub fields_rest : (column count : ℕ) (some : List (List ℕ)) (rest held before new : List ℕ) (a b c : Option (List ℕ)) → column ≡ length some
      → ((k : ℕ) → column ≤ k → k < column + length (raw_fields d Start rest) → is_asked asked k ≡ false)
      → GathersFields A keeps d asked 0 some count held before a b → Flushes before (before_field d column ++ rest) new b c
      → GathersFields A keeps d asked 0 (some ++ raw_fields d Start rest) count held new a c
  fields_rest column count some rest held before new a b c is none fields last =
      let raws = raw_fields d Start rest in
      let place : column ≡ 0 + length some = omega (arith, is) in
      let text : answers_text d column (map unanswered raws) ≡ before_field d column ++ rest =
      texts_kept d column raws (raw_some d Start rest) ∙ ap (λ l. before_field d column ++ l) (joined_is d Start rest) in
      record {
        answers = fields.answers ++ map unanswered raws;
        are = answers_append 0 some raws fields.answers (map unanswered raws) fields.are
            (subst (λ k. AreAnswers A keeps d asked k raws (map unanswered raws)) place (answers_kept column raws none));
        refused_is = fields.refused_is ∙ sym (refused_append fields.answers raws);
        gathered = subst (λ l. Flushes held l new a c)
            (sym (texts_append 0 some fields.answers (map unanswered raws) fields.are ∙ ap (λ k. answers_text d 0 fields.answers ++ answers_text d k (map unanswered raws)) (sym place)
            ∙ ap (λ l. answers_text d 0 fields.answers ++ l) text))
            (flushes_both held (answers_text d 0 fields.answers) (before_field d column ++ rest) before new a b c fields.gathered last);
      }

-- ---- the next field
pub record FieldAt (d : ℕ) (body : List ℕ) (start end : ℕ) : Type 0 where
  pub within : end ≤ length body
  pub others : List (List ℕ)
  pub cut : raw_fields d Start (drop start body) ≡ take (end - start) (drop start body) ∷ others
  pub last : end ≡ length body → raw_fields d Start (drop start body) ≡ take (end - start) (drop start body) ∷ []
  pub more : end < length body → raw_fields d Start (drop start body) ≡ take (end - start) (drop start body) ∷ raw_fields d Start (drop (end + 1) body)
  pub delimiter : end < length body → take 1 (drop end body) ≡ d ∷ []

one_at : (body : List ℕ) (k d : ℕ) → k < length body → get_or body k 0 ≡ d → take 1 (drop k body) ≡ d ∷ []
one_at body k d low is = ap (take 1) (drop-cons body k 0 low) ∙ ap (λ b. b ∷ []) is

pub field_at : (d : ℕ) (body rest : List ℕ) (start r : ℕ) → start ≤ length body → rest ≡ drop start body → r ≤ length rest
    → (r ≡ length rest → raw_fields d Start rest ≡ rest ∷ []) → (r < length rest → raw_fields d Start rest ≡ take r rest ∷ raw_fields d Start (drop (r + 1) rest))
    → (r < length rest → get_or rest r 0 ≡ d) → FieldAt d body start (start + r)
field_at d body rest start r fits is within last more delimiter =
    let size : length rest + start ≡ length body = omega (arith, fits, ap length is, length-drop start body) in
    let count : start + r - start ≡ r = omega arith in
    let raw : take r rest ≡ take (start + r - start) (drop start body) = ap (λ n. take n rest) (sym count) ∙ ap (take (start + r - start)) is in
    let first = first_field d rest r within last more in
    let fields : raw_fields d Start (drop start body) ≡ raw_fields d Start rest = ap (raw_fields d Start) (sym is) in
    let place : start + (r + 1) ≡ start + r + 1 = omega arith in
    record {
      within = omega (arith, within, size);
      others = first.0;
      cut = fields ∙ first.1 ∙ ap (λ l. l ∷ first.0) raw;
      last = λ e. fields ∙ last (omega (arith, e, size)) ∙ ap (λ l. l ∷ []) (sym (take_all r rest (omega (arith, e, size))) ∙ raw);
      more = λ low. fields ∙ more (omega (arith, low, size)) ∙ ap (λ l. l ∷ raw_fields d Start (drop (r + 1) rest)) raw
          ∙ ap (λ l. take (start + r - start) (drop start body) ∷ raw_fields d Start l) (ap (drop (r + 1)) is ∙ drop-drop (r + 1) start body ∙ ap (λ n. drop n body) place);
      delimiter = λ low. one_at body (start + r) d low (sym (get_or-drop start body r 0) ∙ ap (λ l. get_or l r 0) (sym is) ∙ delimiter (omega (arith, low, size)));
    }

pub flushes_rest : (before part rest out last new : List ℕ) (a b : Option (List ℕ)) → (before ++ part) ++ rest ≡ out ++ last → Flushes out last new a b
    → Flushes before (part ++ rest) new a b
flushes_rest before part rest out last new a b is all = record { gone = all.gone; split = sym (append_assoc before part rest) ∙ is ∙ all.split; appends = all.appends }

-- no field from this column on is requested
pub none_after : (d : ℕ) (asked : List Range) (body : List ℕ) (past column start most : ℕ) → past ≤ column → column ≤ start → start ≤ length body → length body ≤ most
    → most + 1 < 2 ^ 64 - 1 → ((k : ℕ) → past ≤ k → k < 2 ^ 64 - 1 → is_asked asked k ≡ false)
    → (k : ℕ) → column ≤ k → k < column + length (raw_fields d Start (drop start body)) → is_asked asked k ≡ false
none_after d asked body past column start most after span fits short room none k low high =
    let few = fields_few d Start (drop start body) in
    none k (omega (arith, after, low)) (omega (arith, high, few, length-drop start body, span, fits, short, room))

module _ (A : List ℕ → AnswerText → Type 0) (keeps : Keeping) (d : ℕ) (asked : List Range) where
  pub fields_next : (some : List (List ℕ)) (raw : List ℕ) (column count n : ℕ) (held before from_here new : List ℕ) (a b c : Option (List ℕ)) → column ≡ length some
      → GathersFields A keeps d asked 0 some count held before a b → before ++ before_field d column ≡ from_here
      → ((refused : Bool) × (n ≡ (if refused then 1 else 0)) × GathersField A keeps d (is_asked asked column) raw refused from_here new b c)
      → GathersFields A keeps d asked 0 (some ++ raw ∷ []) (count + n) held new a c
  fields_next some raw column count n held before from_here new a b c is fields ahead_is one =
      rw (one.1) (fields_one A keeps d asked some raw column count one.0 held before new a b c is fields
      (subst (λ l. GathersField A keeps d (is_asked asked column) raw one.0 l new b c) (sym ahead_is) one.2))

  pub part_next : (all some more : List (List ℕ)) (raw : List ℕ) (column count : ℕ) (held before from_here : List ℕ) (a b c : Option (List ℕ))
      → all ≡ (some ++ raw ∷ []) ++ more → column ≡ length some → GathersFields A keeps d asked 0 some count held before a b → before ++ before_field d column ≡ from_here
      → ((refused : Bool) × (left : List ℕ) × GathersField A keeps d (is_asked asked column) raw refused from_here left b c)
      → GathersPart A keeps d asked all held a c
  part_next all some more raw column count held before from_here a b c cut is fields ahead_is one =
      part_one A keeps d asked all some more raw column count held before a b c cut is fields
      (one.0, one.1, subst (λ l. GathersField A keeps d (is_asked asked column) raw one.0 l one.1 b c) (sym ahead_is) one.2)

-- ---- one field, by its place
texts_end : (d column : ℕ) (some : List (List ℕ)) (raw : List ℕ)
    → answers_text d column (map unanswered (some ++ raw ∷ [])) ≡ answers_text d column (map unanswered some) ++ (before_field d (column + length some) ++ raw)
texts_end d column [] raw =
    let same : column ≡ column + 0 = omega arith in
    append-nil (before_field d column ++ raw) ∙ ap (λ c. before_field d c ++ raw) same
texts_end d column (first ∷ some) raw =
    let same : column + 1 + length some ≡ column + suc (length some) = omega arith in
    ap (λ l. (before_field d column ++ first) ++ l)
    (texts_end d (column + 1) some raw ∙ ap (λ c. answers_text d (column + 1) (map unanswered some) ++ (before_field d c ++ raw)) same)
    ∙ sym (append_assoc (before_field d column ++ first) (answers_text d (column + 1) (map unanswered some)) (before_field d (column + suc (length some)) ++ raw))

-- the bytes before the next field
pub before_next : (d : ℕ) (body : List ℕ) (start end column : ℕ) (some : List (List ℕ)) → start ≤ end → column ≡ length some → take 1 (drop end body) ≡ d ∷ []
    → take start body ≡ answers_text d 0 (map unanswered some) ++ before_field d column
    → take (end + 1) body ≡ answers_text d 0 (map unanswered (some ++ take (end - start) (drop start body) ∷ [])) ++ before_field d (column + 1)
before_next d body start end column some ordered is one before =
    let raw = take (end - start) (drop start body) in
    let texts = answers_text d 0 (map unanswered some) in
    let whole : end + 1 ≡ start + (end - start + 1) = omega (arith, ordered) in
    let there : start + (end - start) ≡ end = omega (arith, ordered) in
    let place : 0 + length some ≡ column = omega (arith, is) in
    ap (λ n. take n body) whole ∙ take-add start (end - start + 1) body
    ∙ ap (λ l. take start body ++ l) (take-add (end - start) 1 (drop start body) ∙ ap (λ l. raw ++ take 1 l) (drop-drop (end - start) start body ∙ ap (λ n. drop n body) there) ∙ ap (λ l. raw ++ l) one)
    ∙ ap (λ l. l ++ (raw ++ d ∷ [])) before ∙ append_assoc texts (before_field d column) (raw ++ d ∷ [])
    ∙ ap (λ l. texts ++ l) (sym (append_assoc (before_field d column) raw (d ∷ []))) ∙ sym (append_assoc texts (before_field d column ++ raw) (d ∷ []))
    ∙ ap (λ l. l ++ d ∷ []) (sym (texts_end d 0 some raw ∙ ap (λ c. texts ++ (before_field d c ++ raw)) place))
    ∙ ap (λ l. answers_text d 0 (map unanswered (some ++ raw ∷ [])) ++ l) (sym (before_later d column))

-- the delimiter after a field, and the fields after it
behind_it : (d : ℕ) (body : List ℕ) (end column : ℕ) → end < length body → take 1 (drop end body) ≡ d ∷ []
    → drop end body ≡ answers_text d (column + 1) (map unanswered (raw_fields d Start (drop (end + 1) body)))
behind_it d body end column low one =
    let rest = drop (end + 1) body in
    let raws = raw_fields d Start rest in
    let parts = drop-cons body end 0 low in
    let byte : get_or body end 0 ≡ d = ap (λ l. get_or l 0 0) (sym (ap (take 1) parts) ∙ one) in
    let next : suc end ≡ end + 1 = omega arith in
    parts ∙ ap (λ b. b ∷ drop (suc end) body) byte ∙ ap (λ n. d ∷ drop n body) next
    ∙ sym (texts_more d column raws ∙ more_is d raws (raw_some d Start rest) ∙ ap (λ l. d ∷ l) (joined_is d Start rest))

pub field_here : (d : ℕ) (body : List ℕ) (start end column : ℕ) (some : List (List ℕ)) → start ≤ end → FieldAt d body start end
    → raw_fields d Start body ≡ some ++ raw_fields d Start (drop start body) → column ≡ length some
    → take start body ≡ answers_text d 0 (map unanswered some) ++ before_field d column → IsFieldAt d body column start end
field_here d body start end column some ordered found cut is before = ⊎_elim
    (λ (low : end < length body). record {
      ordered = ordered;
      within = found.within;
      some = some;
      more = raw_fields d Start (drop (end + 1) body);
      cut = cut ∙ ap (λ l. some ++ l) (found.more low);
      column_is = is;
      before = before;
      after = behind_it d body end column low (found.delimiter low);
    })
    (λ (high : length body ≤ end). record {
      ordered = ordered;
      within = found.within;
      some = some;
      more = [];
      cut = cut ∙ ap (λ l. some ++ l) (found.last (omega (arith, high, found.within)));
      column_is = is;
      before = before;
      after = drop_all end body high;
    })
    (cases_lt end (length body))

pub last_count : (all some : List (List ℕ)) (raw : List ℕ) (count : ℕ) → all ≡ some ++ raw ∷ [] → count ≡ length some → count + 1 ≡ length all
last_count all some raw count cut is = omega (arith, ap length cut, length-append some (raw ∷ []), is)

-- `only column` requests this column and no other
pub only_it : (column : ℕ) → is_asked (only column) column ≡ true
only_it column = grind (arith, nat_tests)

pub only_below : (column k : ℕ) → k < column → is_asked (only column) k ≡ false
only_below column k low = grind (arith, nat_tests)

pub only_above : (column k : ℕ) → column < k → is_asked (only column) k ≡ false
only_above column k high = grind (arith, nat_tests)

refused_around : (some more : List (List ℕ)) (answer : FieldAnswer)
    → count_refused (map unanswered some ++ answer ∷ map unanswered more) ≡ (if answer.refused then 1 else 0)
refused_around [] more answer = omega (arith, none_refused more)
refused_around (raw ∷ some) more answer = omega (arith, refused_around some more answer)

module _ (A : List ℕ → AnswerText → Type 0) (keeps : Keeping) (d : ℕ) where
  -- one field was answered, and the bytes around it were copied
  pub field_around : (body : List ℕ) (column start end : ℕ) (text : List ℕ) (refused : Bool) (held new : List ℕ) (a b : Option (List ℕ)) → IsFieldAt d body column start end
      → IsAnswer A keeps d true (take (end - start) (drop start body)) (record { text = text; refused = refused })
      → Flushes held ((take start body ++ text) ++ drop end body) new a b
      → GathersFields A keeps d (only column) 0 (raw_fields d Start body) (if refused then 1 else 0) held new a b
  field_around body column start end text refused held new a b at one gathered =
      let raw = take (end - start) (drop start body) in
      let answer : FieldAnswer = record { text = text; refused = refused } in
      let before = map unanswered at.some in
      let behind = map unanswered at.more in
      let place : 0 + length at.some ≡ column = omega (arith, at.column_is) in
      let low = answers_kept A keeps d (only column) 0 at.some (λ k from to. only_below column k (omega (arith, to, at.column_is))) in
      let high = answers_kept A keeps d (only column) (column + 1) at.more (λ k from to. only_above column k (omega (arith, from))) in
      let here : IsAnswer A keeps d (is_asked (only column) column) raw answer = rw (only_it column) one in
      let later : AreAnswers A keeps d (only column) column (raw ∷ at.more) (answer ∷ behind) = (here, high) in
      let are = answers_append A keeps d (only column) 0 at.some (raw ∷ at.more) before (answer ∷ behind) low
      (subst (λ k. AreAnswers A keeps d (only column) k (raw ∷ at.more) (answer ∷ behind)) (sym place) later) in
      let text_is : answers_text d 0 (before ++ answer ∷ behind) ≡ (take start body ++ text) ++ drop end body =
      texts_append A keeps d (only column) 0 at.some before (answer ∷ behind) low
      ∙ ap (λ k. answers_text d 0 before ++ answers_text d k (answer ∷ behind)) place
      ∙ sym (append_assoc (answers_text d 0 before) (before_field d column ++ text) (answers_text d (column + 1) behind))
      ∙ ap (λ l. l ++ answers_text d (column + 1) behind) (sym (append_assoc (answers_text d 0 before) (before_field d column) text))
      ∙ ap (λ l. (l ++ text) ++ answers_text d (column + 1) behind) (sym at.before)
      ∙ ap (λ l. (take start body ++ text) ++ l) (sym at.after) in
      record {
        answers = before ++ answer ∷ behind;
        are = subst (λ l. AreAnswers A keeps d (only column) 0 l (before ++ answer ∷ behind)) (sym at.cut) are;
        refused_is = sym (refused_around at.some at.more answer);
        gathered = subst (λ l. Flushes held l new a b) (sym text_is) gathered;
      }

  pub field_filled : (body before after : List ℕ) (column start end count : ℕ) (refused : Bool) (held mid new : List ℕ) (a b c : Option (List ℕ)) → IsFieldAt d body column start end
      → count ≡ (if refused then 1 else 0) → before ≡ take start body → after ≡ drop end body
      → GathersAnswer A keeps d before (take (end - start) (drop start body)) refused held mid a b → Flushes mid after new b c
      → GathersFields A keeps d (only column) 0 (raw_fields d Start body) count held new a c
  field_filled body before after column start end count refused held mid new a b c at count_is before_is after_is one last =
      let both = flushes_both held (before ++ one.text) after mid new a b c one.gathered last in
      rw count_is (field_around body column start end one.text refused held new a c at one.answer
      (subst (λ l. Flushes held ((take start body ++ one.text) ++ l) new a c) after_is (subst (λ l. Flushes held ((l ++ one.text) ++ after) new a c) before_is both)))

  pub field_cut : (body before : List ℕ) (column start end : ℕ) (refused : Bool) (held left : List ℕ) (a b : Option (List ℕ)) → IsFieldAt d body column start end
      → before ≡ take start body → GathersAnswer A keeps d before (take (end - start) (drop start body)) refused held left a b
      → GathersPart A keeps d (only column) (raw_fields d Start body) held a b
  field_cut body before column start end refused held left a b at before_is one =
      let more = flushes_more held (before ++ one.text) left (drop end body) a b one.gathered in
      part_all A keeps d (only column) (raw_fields d Start body) (if refused then 1 else 0) held (left ++ drop end body) a b
      (field_around body column start end one.text refused held (left ++ drop end body) a b at one.answer
      (subst (λ l. Flushes held ((l ++ one.text) ++ drop end body) (left ++ drop end body) a b) before_is more))

-- the field in the column `length some`
got_at : (some more : List (List ℕ)) (raw : List ℕ) → get_or (some ++ raw ∷ more) (length some) [] ≡ raw
got_at [] more raw = refl
got_at (x ∷ some) more raw = got_at some more raw

pub field_got : (all some more : List (List ℕ)) (raw : List ℕ) (column : ℕ) → all ≡ some ++ raw ∷ more → column ≡ length some → raw ≡ get_or all column []
field_got all some more raw column cut is =
    sym (ap (λ l. get_or l column []) cut ∙ ap (λ k. get_or (some ++ raw ∷ more) k []) is ∙ got_at some more raw)

pub none_got : (all : List (List ℕ)) (column : ℕ) → length all ≤ column → get_or all column [] ≡ []
none_got [] column few = refl
none_got (x ∷ xs) zero few = absurd (omega (arith, few))
none_got (x ∷ xs) (suc k) few = none_got xs k (omega (arith, few))
