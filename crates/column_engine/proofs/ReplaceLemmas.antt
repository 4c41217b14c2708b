-- The record written for a record has its fields, with replies in place of the requested ones.
use Rattle.std.proofs.Common.{◌≡◌, ◌==◌, ◌||◌, ◌+◌, ℕ, List, [], ◌∷◌, ◌++◌, Bool, true, false, refl, sym, ap, ◌∙◌, subst, append-nil, arith, if◌then◌else◌, map, length, inl, inr, ◌⊎◌, length-append, get_or, zero, suc, append_assoc}
use Rattle.std.proofs.lemmas.Bool.{eq-eqb, eqb-true, false≢true}
use Rattle.std.specs.Prelude.{◌≢◌, ⊤, None, Option, Some}
use Rattle.csv.specs.Writing.{default_writer, escaped, needs_byte, needs_quotes, quoted}
use Rattle.line_engine.specs.AnswerText.{AnswerText}
use Rattle.line_engine.specs.Lines.{onto_first}
use Rattle.column_engine.specs.Answers.{AnswersFields, AnswersRow, AnswersRows, AppendsField, AreAnswers, FieldAnswer, IsAnswer, PassesHeader, State, answers_text, as_field, before_field, calls_for_quotes, first_asked, is_asked, keeps_quotes, stays, written_for}
use Rattle.column_engine.specs.Laws.{AreReplaced, AreReplacedRows, AreRows, FieldsAreReplaced, IsDelimiter, IsRecordOf, IsReplaced, IsReplacedRow}
use Rattle.column_engine.specs.Rows.{IsEnded, IsLast, IsUnended, Row, content, ends_field, ends_record, field_texts, place_after, places_after, raw_fields, row_text, rows_text, within_after}
use Rattle.column_engine.specs.declared.columns.Column.{Column}
use Rattle.column_engine.specs.declared.columns.Keeping.{Keeping}
use Rattle.column_engine.specs.declared.columns.Range.{Range}
use Rattle.column_engine.specs.declared.place.Place.{Place}
use Rattle.column_engine.specs.declared.place.Place.TheVariants.{AfterQuote, Inside, Quoted, Start}
use Rattle.column_engine.proofs.FieldsLemmas.{joined, joined_is, joined_more}
use Rattle.column_engine.proofs.RowLemmas.{from_never, places_append, plain_first, plain_none, raw_end, raw_none, raw_on, unended_append}

-- ---- the bytes of one field
-- `bytes` continue a field from the place `p` and do not end the field or its record
pub IsRaw : ℕ → Place → List ℕ → Type 0
IsRaw d p [] = ⊤
IsRaw d p (b ∷ rest) = (ends_record p b ≡ false) × (ends_field d p b ≡ false) × IsRaw d (within_after p b) rest

raw_unended : (d : ℕ) (p : Place) (raw : List ℕ) → IsRaw d p raw → IsUnended d p raw
unfolding IsRaw IsUnended
raw_unended d p [] is = tt
raw_unended d p (b ∷ rest) is =
    let place : place_after d p b ≡ within_after p b = rw (is.1) refl in
    (is.0, subst (λ q. IsUnended d q rest) (sym place) (raw_unended d (within_after p b) rest is.2))

-- puts `xs` at the front of the first field
onto : List ℕ → List (List ℕ) → List (List ℕ)
onto xs [] = []
onto xs (f ∷ fs) = (xs ++ f) ∷ fs

onto_nothing : (fs : List (List ℕ)) → onto [] fs ≡ fs
unfolding onto
onto_nothing [] = refl
onto_nothing (f ∷ fs) = refl

onto_more : (b : ℕ) (xs : List ℕ) (fs : List (List ℕ)) → onto_first b (onto xs fs) ≡ onto (b ∷ xs) fs
unfolding onto
onto_more b xs [] = refl
onto_more b xs (f ∷ fs) = refl

raw_before : (d : ℕ) (p : Place) (raw more : List ℕ) → IsRaw d p raw → raw_fields d p (raw ++ more) ≡ onto raw (raw_fields d (places_after d p raw) more)
unfolding IsRaw places_after
raw_before d p [] more is = sym (onto_nothing (raw_fields d p more))
raw_before d p (b ∷ rest) more is =
    let place : place_after d p b ≡ within_after p b = rw (is.1) refl in
    raw_on d p b (rest ++ more) is.1 ∙ ap (onto_first b) (raw_before d (within_after p b) rest more is.2) ∙ onto_more b rest (raw_fields d (places_after d (within_after p b) rest) more)
    ∙ ap (λ q. onto (b ∷ rest) (raw_fields d (places_after d q rest) more)) (sym place)

raw_alone : (d : ℕ) (p : Place) (raw : List ℕ) → IsRaw d p raw → raw_fields d p raw ≡ raw ∷ []
unfolding onto
raw_alone d p raw is =
    ap (raw_fields d p) (sym (append-nil raw)) ∙ raw_before d p raw [] is ∙ ap (onto raw) (raw_none d (places_after d p raw)) ∙ ap (λ l. l ∷ []) (append-nil raw)

-- ---- fields between delimiters, each but the last ending outside quotes
pub AreRaw : ℕ → Place → List (List ℕ) → Type 0
AreRaw d p [] = ⊥
AreRaw d p (raw ∷ []) = IsRaw d p raw
AreRaw d p (raw ∷ next ∷ raws) = IsRaw d p raw × (places_after d p raw ≢ Quoted) × AreRaw d Start (next ∷ raws)

pub last_place : ℕ → Place → List (List ℕ) → Place
last_place d p [] = p
last_place d p (raw ∷ []) = places_after d p raw
last_place d p (raw ∷ next ∷ raws) = last_place d Start (next ∷ raws)

-- a byte that ends a field is outside quotes
outside_of : (d : ℕ) (p : Place) (b : ℕ) → ends_field d p b ≡ true → p ≢ Quoted
outside_of d Start b is = λ e. cc e
outside_of d Inside b is = λ e. cc e
outside_of d AfterQuote b is = λ e. cc e
outside_of d Quoted b is = absurd (false≢true is)

-- the fields of `bytes`
pub record Cut (d : ℕ) (p : Place) (bytes : List ℕ) : Type 0 where
  pub first : List ℕ
  pub rest : List (List ℕ)
  pub are : raw_fields d p bytes ≡ first ∷ rest
  pub raw : AreRaw d p (first ∷ rest)
  pub last : last_place d p (first ∷ rest) ≡ places_after d p bytes

cut_none : (d : ℕ) (p : Place) → Cut d p []
unfolding AreRaw IsRaw last_place places_after
cut_none d p = record { first = []; rest = []; are = raw_none d p; raw = tt; last = refl }

cut_end : (d : ℕ) (p : Place) (b : ℕ) (rest : List ℕ) → ends_field d p b ≡ true → Cut d Start rest → Cut d p (b ∷ rest)
unfolding AreRaw IsRaw last_place places_after
cut_end d p b rest ends next =
    let place : place_after d p b ≡ Start = rw ends refl in
    record {
      first = [];
      rest = next.first ∷ next.rest;
      are = raw_end d p b rest ends ∙ ap (λ l. [] ∷ l) next.are;
      raw = (tt, outside_of d p b ends, next.raw);
      last = next.last ∙ ap (λ q. places_after d q rest) (sym place);
    }

raw_longer : (d : ℕ) (p : Place) (b : ℕ) (first : List ℕ) (rest : List (List ℕ)) → ends_record p b ≡ false → ends_field d p b ≡ false
    → AreRaw d (within_after p b) (first ∷ rest) → AreRaw d p ((b ∷ first) ∷ rest)
unfolding AreRaw IsRaw places_after
raw_longer d p b first [] goes_on inside are = (goes_on, inside, are)
raw_longer d p b first (next ∷ rest) goes_on inside are =
    let place : place_after d p b ≡ within_after p b = rw inside refl in
    ((goes_on, inside, are.0), subst (λ q. places_after d q first ≢ Quoted) (sym place) are.1, are.2)

last_longer : (d : ℕ) (p : Place) (b : ℕ) (first : List ℕ) (rest : List (List ℕ)) → ends_field d p b ≡ false
    → last_place d p ((b ∷ first) ∷ rest) ≡ last_place d (within_after p b) (first ∷ rest)
unfolding last_place places_after
last_longer d p b first [] inside =
    let place : place_after d p b ≡ within_after p b = rw inside refl in
    ap (λ q. places_after d q first) place
last_longer d p b first (next ∷ rest) inside = refl

cut_on : (d : ℕ) (p : Place) (b : ℕ) (rest : List ℕ) → ends_record p b ≡ false → ends_field d p b ≡ false → Cut d (within_after p b) rest → Cut d p (b ∷ rest)
unfolding places_after
cut_on d p b rest goes_on inside next =
    let place : place_after d p b ≡ within_after p b = rw inside refl in
    record {
      first = b ∷ next.first;
      rest = next.rest;
      are = raw_on d p b rest inside ∙ ap (onto_first b) next.are;
      raw = raw_longer d p b next.first next.rest goes_on inside next.raw;
      last = last_longer d p b next.first next.rest inside ∙ next.last ∙ ap (λ q. places_after d q rest) (sym place);
    }

cut_one : (d : ℕ) (p : Place) (b : ℕ) (rest : List ℕ) (ends : Bool) → ends_record p b ≡ false → ends_field d p b ≡ ends → Cut d (place_after d p b) rest → Cut d p (b ∷ rest)
cut_one d p b rest true goes_on is next =
    let place : place_after d p b ≡ Start = rw is refl in
    cut_end d p b rest is (subst (λ q. Cut d q rest) place next)
cut_one d p b rest false goes_on is next =
    let place : place_after d p b ≡ within_after p b = rw is refl in
    cut_on d p b rest goes_on is (subst (λ q. Cut d q rest) place next)

pub cut_of : (d : ℕ) (p : Place) (bytes : List ℕ) → IsUnended d p bytes → Cut d p bytes
unfolding IsUnended
cut_of d p [] unended = cut_none d p
cut_of d p (b ∷ rest) unended = cut_one d p b rest (ends_field d p b) unended.0 refl (cut_of d (place_after d p b) rest unended.1)

-- conversely, such fields, joined with delimiters, are the fields of a record
line_goes_on : (p : Place) (b : ℕ) → (b == 10) ≡ false → (b == 13) ≡ false → ends_record p b ≡ false
line_goes_on Start b n r = rw (n, r) refl
line_goes_on Inside b n r = rw (n, r) refl
line_goes_on Quoted b n r = refl
line_goes_on AfterQuote b n r = rw (n, r) refl

delimiter_ends : (d : ℕ) (p : Place) → p ≢ Quoted → ends_field d p d ≡ true
delimiter_ends d Start other = eq-eqb d d refl
delimiter_ends d Inside other = eq-eqb d d refl
delimiter_ends d AfterQuote other = eq-eqb d d refl
delimiter_ends d Quoted other = absurd (other refl)

delimiter_goes_on : (d : ℕ) (p : Place) → IsDelimiter d → ends_record p d ≡ false
delimiter_goes_on d p is =
    let newline : (d == 10) ≡ false = from_never (d == 10) (λ e. is.no_newline (eqb-true d 10 e)) in
    let return : (d == 13) ≡ false = from_never (d == 13) (λ e. is.no_return (eqb-true d 13 e)) in
    line_goes_on p d newline return

joined_two : (d : ℕ) (raw next : List ℕ) (raws : List (List ℕ)) → joined d (raw ∷ next ∷ raws) ≡ raw ++ (d ∷ joined d (next ∷ raws))
unfolding joined joined_more
joined_two d raw next raws = refl

joined_alone : (d : ℕ) (raw : List ℕ) → joined d (raw ∷ []) ≡ raw
unfolding joined joined_more
joined_alone d raw = append-nil raw

pub record Joins (d : ℕ) (p : Place) (raws : List (List ℕ)) : Type 0 where
  pub unended : IsUnended d p (joined d raws)
  pub fields : raw_fields d p (joined d raws) ≡ raws
  pub place : places_after d p (joined d raws) ≡ last_place d p raws

joins_alone : (d : ℕ) (p : Place) (raw : List ℕ) → IsRaw d p raw → Joins d p (raw ∷ [])
unfolding last_place
joins_alone d p raw is = record {
  unended = subst (IsUnended d p) (sym (joined_alone d raw)) (raw_unended d p raw is);
  fields = ap (raw_fields d p) (joined_alone d raw) ∙ raw_alone d p raw is;
  place = ap (places_after d p) (joined_alone d raw);
}

-- the delimiter outside quotes starts a new field of the record
from_delimiter : (d : ℕ) (p : Place) (rest : List ℕ) → IsDelimiter d → p ≢ Quoted → IsUnended d Start rest → IsUnended d p (d ∷ rest)
unfolding IsUnended
from_delimiter d p rest is other unended =
    let place : place_after d p d ≡ Start = rw (delimiter_ends d p other) refl in
    (delimiter_goes_on d p is, subst (λ q. IsUnended d q rest) (sym place) unended)

place_from_delimiter : (d : ℕ) (p : Place) (rest : List ℕ) → p ≢ Quoted → places_after d p (d ∷ rest) ≡ places_after d Start rest
unfolding places_after
place_from_delimiter d p rest other =
    let place : place_after d p d ≡ Start = rw (delimiter_ends d p other) refl in
    ap (λ q. places_after d q rest) place

onto_end : (raw : List ℕ) (raws : List (List ℕ)) → onto raw ([] ∷ raws) ≡ raw ∷ raws
unfolding onto
onto_end raw raws = ap (λ l. l ∷ raws) (append-nil raw)

joins_more : (d : ℕ) (p : Place) (raw next : List ℕ) (raws : List (List ℕ)) → IsDelimiter d → IsRaw d p raw → places_after d p raw ≢ Quoted → Joins d Start (next ∷ raws)
    → Joins d p (raw ∷ next ∷ raws)
unfolding last_place
joins_more d p raw next raws is one other more =
    let q = places_after d p raw in
    let rest = joined d (next ∷ raws) in
    record {
      unended = subst (IsUnended d p) (sym (joined_two d raw next raws)) (unended_append d p raw (d ∷ rest) (raw_unended d p raw one) (from_delimiter d q rest is other more.unended));
      fields = ap (raw_fields d p) (joined_two d raw next raws) ∙ raw_before d p raw (d ∷ rest) one ∙ ap (onto raw) (raw_end d q d rest (delimiter_ends d q other))
          ∙ onto_end raw (raw_fields d Start rest) ∙ ap (λ l. raw ∷ l) more.fields;
      place = ap (places_after d p) (joined_two d raw next raws) ∙ places_append d p raw (d ∷ rest) ∙ place_from_delimiter d q rest other ∙ more.place;
    }

pub joins : (d : ℕ) (p : Place) (raws : List (List ℕ)) → IsDelimiter d → AreRaw d p raws → Joins d p raws
unfolding AreRaw
joins d p [] is are = absurd are
joins d p (raw ∷ []) is are = joins_alone d p raw are
joins d p (raw ∷ next ∷ raws) is are = joins_more d p raw next raws is are.0 are.1 (joins d Start (next ∷ raws) is are.2)

-- ---- a text as a field
-- a byte that a field may contain without quotes
pub record IsPlain (d b : ℕ) : Type 0 where
  pub delimiter : (b == d) ≡ false
  pub quote : (b == 34) ≡ false
  pub newline : (b == 10) ≡ false
  pub return : (b == 13) ≡ false

or_left : (x y : Bool) → (x || y) ≡ false → x ≡ false
or_left true y e = e
or_left false y e = refl

or_right : (x y : Bool) → (x || y) ≡ false → y ≡ false
or_right true y e = absurd (false≢true (sym e))
or_right false y e = e

plain_byte : (d b : ℕ) → needs_byte (record default_writer { delimiter = d }) b ≡ false → IsPlain d b
plain_byte d b none =
    let first = or_left ((b == d) || (b == 34) || ((b == 13) || (b == 10))) false (or_left _ false none) in
    let marks : ((b == 13) || (b == 10)) ≡ false = or_right ((b == d) || (b == 34)) ((b == 13) || (b == 10)) first in
    let two : ((b == d) || (b == 34)) ≡ false = or_left ((b == d) || (b == 34)) ((b == 13) || (b == 10)) first in
    record {
      delimiter = or_left (b == d) (b == 34) two;
      quote = or_right (b == d) (b == 34) two;
      newline = or_right (b == 13) (b == 10) marks;
      return = or_left (b == 13) (b == 10) marks;
    }

plain_inside : (d : ℕ) (text : List ℕ) → needs_quotes (record default_writer { delimiter = d }) text ≡ false → IsRaw d Inside text × (places_after d Inside text ≡ Inside)
unfolding IsRaw places_after
plain_inside d [] none = (tt, refl)
plain_inside d (b ∷ rest) none =
    let plain = plain_byte d b (or_left _ _ none) in
    let later = plain_inside d rest (or_right _ _ none) in
    let place : place_after d Inside b ≡ Inside = rw plain.delimiter refl in
    ((rw (plain.newline, plain.return) refl, plain.delimiter, later.0), ap (λ q. places_after d q rest) place ∙ later.1)

-- the bytes `raw` are a field that encodes `text` and ends outside quotes
pub record Means (d : ℕ) (raw text : List ℕ) : Type 0 where
  pub raw_is : IsRaw d Start raw
  pub closed : places_after d Start raw ≢ Quoted
  pub some : raw ≢ []
  pub text_is : content Start raw ≡ text

inside_open : Inside ≢ Quoted
inside_open = λ e. cc e

plain_means : (d : ℕ) (text : List ℕ) → text ≢ [] → needs_quotes (record default_writer { delimiter = d }) text ≡ false → Means d text text
unfolding IsRaw places_after
plain_means d [] some none = absurd (some refl)
plain_means d (b ∷ rest) some none =
    let plain = plain_byte d b (or_left _ _ none) in
    let later = plain_inside d rest (or_right _ _ none) in
    let within : within_after Start b ≡ Inside = rw plain.quote refl in
    let place : place_after d Start b ≡ Inside = rw (plain.delimiter, plain.quote) refl in
    let inside : places_after d (place_after d Start b) rest ≡ Inside = ap (λ q. places_after d q rest) place ∙ later.1 in
    record {
      raw_is = (rw (plain.newline, plain.return) refl, plain.delimiter, subst (λ q. IsRaw d q rest) (sym within) later.0);
      closed = λ e. inside_open (sym inside ∙ e);
      some = some;
      text_is = plain_first (b ∷ rest) plain.quote;
    }

-- the bytes after an opening quote, up to the closing one, that encode `text`
pub record IsEscaped (d : ℕ) (raw text : List ℕ) : Type 0 where
  pub raw_is : IsRaw d Quoted raw
  pub place : places_after d Quoted raw ≡ AfterQuote
  pub text_is : content Quoted raw ≡ text

escaped_none : (d : ℕ) → IsEscaped d (escaped (record default_writer { delimiter = d }) [] ++ 34 ∷ []) []
unfolding IsRaw places_after content escaped
escaped_none d = record { raw_is = (refl, refl, tt); place = refl; text_is = refl }

escaped_plain : (d b : ℕ) (raw text : List ℕ) → (b == 34) ≡ false → IsEscaped d raw text → IsEscaped d (b ∷ raw) (b ∷ text)
unfolding IsRaw places_after content
escaped_plain d b raw text other more =
    let within : within_after Quoted b ≡ Quoted = rw other refl in
    record {
      raw_is = (refl, refl, subst (λ q. IsRaw d q raw) (sym within) more.raw_is);
      place = ap (λ q. places_after d q raw) within ∙ more.place;
      text_is = rw other (ap (λ l. b ∷ l) more.text_is);
    }

escaped_quote : (d : ℕ) (raw text : List ℕ) → IsDelimiter d → IsEscaped d raw text → IsEscaped d (34 ∷ 34 ∷ raw) (34 ∷ text)
unfolding IsRaw places_after content
escaped_quote d raw text is more =
    let other : (34 == d) ≡ false = from_never (34 == d) (λ e. is.no_quote (sym (eqb-true 34 d e))) in
    let place : place_after d AfterQuote 34 ≡ Quoted = rw other refl in
    record {
      raw_is = (refl, refl, (refl, other, more.raw_is));
      place = ap (λ q. places_after d q raw) place ∙ more.place;
      text_is = ap (λ l. 34 ∷ l) more.text_is;
    }

escaped_step : (d b : ℕ) (rest : List ℕ) (q : Bool) → (b == 34) ≡ q → IsDelimiter d → IsEscaped d (escaped (record default_writer { delimiter = d }) rest ++ 34 ∷ []) rest
    → IsEscaped d (escaped (record default_writer { delimiter = d }) (b ∷ rest) ++ 34 ∷ []) (b ∷ rest)
unfolding escaped
escaped_step d b rest true same is more =
    let whole = escaped_quote d (escaped (record default_writer { delimiter = d }) rest ++ 34 ∷ []) rest is more in
    rw (same, eqb-true b 34 same) whole
escaped_step d b rest false other is more = rw other (escaped_plain d b (escaped (record default_writer { delimiter = d }) rest ++ 34 ∷ []) rest other more)

escaped_all : (d : ℕ) (text : List ℕ) → IsDelimiter d → IsEscaped d (escaped (record default_writer { delimiter = d }) text ++ 34 ∷ []) text
escaped_all d [] is = escaped_none d
escaped_all d (b ∷ rest) is = escaped_step d b rest (b == 34) refl is (escaped_all d rest is)

quoted_means : (d : ℕ) (text : List ℕ) → IsDelimiter d → Means d (quoted (record default_writer { delimiter = d }) text) text
unfolding IsRaw places_after content
quoted_means d text is =
    let more = escaped_all d text is in
    let raw = escaped (record default_writer { delimiter = d }) text ++ 34 ∷ [] in
    let other : (34 == d) ≡ false = from_never (34 == d) (λ e. is.no_quote (sym (eqb-true 34 d e))) in
    let place : place_after d Start 34 ≡ Quoted = rw other refl in
    record {
      raw_is = (refl, other, more.raw_is);
      closed = λ e. cc (sym (ap (λ q. places_after d q raw) place ∙ more.place) ∙ e);
      some = λ e. absurd (omega (arith, ap length e));
      text_is = more.text_is;
    }

field_means : (d : ℕ) (text : List ℕ) (calls : Bool) → IsDelimiter d → calls_for_quotes d text ≡ calls → Means d (as_field d text) text
field_means d text true is e = rw e (quoted_means d text is)
field_means d text false is e =
    let first = or_left _ _ e in
    let some : (length text == 0) ≡ false = or_left _ _ first in
    rw e (plain_means d text (λ none. absurd (false≢true (sym some ∙ ap (λ l. length l == 0) none))) (or_right _ _ e))

-- the bytes written for a reply encode it
written_means : (d : ℕ) (keeps : Keeping) (raw : List ℕ) (reply : AnswerText) (has : Bool) → IsDelimiter d → keeps_quotes keeps raw reply ≡ has → Means d (written_for keeps d raw reply) reply.text
written_means d keeps raw reply true is e = rw e (quoted_means d reply.text is)
written_means d keeps raw reply false is e = rw e (field_means d reply.text (calls_for_quotes d reply.text) is refl)

-- ---- the answers to the fields of a record
pub texts : List FieldAnswer → List (List ℕ)
texts answers = map (λ (a : FieldAnswer). a.text) answers

texts_joined_more : (d column : ℕ) (answers : List FieldAnswer) → answers_text d (column + 1) answers ≡ joined_more d (texts answers)
unfolding joined_more texts
texts_joined_more d column [] = refl
texts_joined_more d column (answer ∷ answers) =
    let later : (column + 1 == 0) ≡ false = grind arith in
    ap (λ l. (before_field d (column + 1) ++ answer.text) ++ l) (texts_joined_more d (column + 1) answers) ∙ rw later refl

pub texts_joined : (d : ℕ) (answers : List FieldAnswer) → answers_text d 0 answers ≡ joined d (texts answers)
unfolding joined texts
texts_joined d [] = refl
texts_joined d (answer ∷ answers) = ap (λ l. answer.text ++ l) (texts_joined_more d 0 answers)

-- the bytes written for a field replace its text and keep it closed and not empty
pub record Answered (A : List ℕ → AnswerText → Type 0) (keeps : Keeping) (d : ℕ) (asks : Bool) (raw text : List ℕ) : Type 0 where
  pub raw_is : IsRaw d Start text
  pub closed : places_after d Start raw ≢ Quoted → places_after d Start text ≢ Quoted
  pub some : raw ≢ [] → text ≢ []
  pub replaced : IsReplaced A keeps asks (content Start raw) (content Start text)

module _ (A : List ℕ → AnswerText → Type 0) (keeps : Keeping) (d : ℕ) where
  replied : (raw : List ℕ) (reply : AnswerText) (answer : FieldAnswer) (kept : Bool) → IsDelimiter d → IsRaw d Start raw → A (content Start raw) reply → stays keeps reply ≡ kept
      → answer ≡ record { text = if stays keeps reply then raw else written_for keeps d raw reply; refused = reply.fault } → Answered A keeps d true raw answer.text
  replied raw reply answer true is raw_is meaning e answer_is =
      let text : answer.text ≡ raw = ap (λ (a : FieldAnswer). a.text) answer_is ∙ rw e refl in
      rw text (record { raw_is = raw_is; closed = λ x. x; some = λ x. x; replaced = (reply, meaning, rw e refl) })
  replied raw reply answer false is raw_is meaning e answer_is =
      let text : answer.text ≡ written_for keeps d raw reply = ap (λ (a : FieldAnswer). a.text) answer_is ∙ rw e refl in
      let means = written_means d keeps raw reply (keeps_quotes keeps raw reply) is refl in
      rw text (record {
        raw_is = means.raw_is;
        closed = λ x. means.closed;
        some = λ x. means.some;
        replaced = (reply, meaning, means.text_is ∙ rw e refl);
      })

  answered : (asks : Bool) (raw : List ℕ) (answer : FieldAnswer) → IsDelimiter d → IsRaw d Start raw → IsAnswer A keeps d asks raw answer → Answered A keeps d asks raw answer.text
  answered false raw answer is raw_is one =
      let text : answer.text ≡ raw = ap (λ (a : FieldAnswer). a.text) one in
      rw text (record { raw_is = raw_is; closed = λ x. x; some = λ x. x; replaced = refl })
  answered true raw answer is raw_is one = replied raw one.0 answer (stays keeps one.0) is raw_is one.1 refl one.2

  -- the same for all fields of a record
  pub record AllAnswered (asked : List Range) (column : ℕ) (raws news : List (List ℕ)) : Type 0 where
    pub raw : AreRaw d Start news
    pub closed : last_place d Start raws ≢ Quoted → last_place d Start news ≢ Quoted
    pub replaced : AreReplaced A keeps asked column (map (content Start) raws) (map (content Start) news)

  all_answered : (asked : List Range) (column : ℕ) (raws : List (List ℕ)) (answers : List FieldAnswer) → IsDelimiter d → AreRaw d Start raws
      → AreAnswers A keeps d asked column raws answers → AllAnswered asked column raws (texts answers)
  unfolding AreRaw last_place texts
  all_answered asked column [] answers is raw are = absurd raw
  all_answered asked column (first ∷ raws) [] is raw are = absurd are
  all_answered asked column (first ∷ []) (answer ∷ []) is raw are =
      let one = answered (is_asked asked column) first answer is raw are.0 in
      record { raw = one.raw_is; closed = one.closed; replaced = (one.replaced, tt) }
  all_answered asked column (first ∷ []) (answer ∷ more ∷ answers) is raw are = absurd are.1
  all_answered asked column (first ∷ next ∷ raws) (answer ∷ []) is raw are = absurd are.1
  all_answered asked column (first ∷ next ∷ raws) (answer ∷ more ∷ answers) is raw are =
      let one = answered (is_asked asked column) first answer is raw.0 are.0 in
      let others = all_answered asked (column + 1) (next ∷ raws) (more ∷ answers) is raw.2 are.1 in
      record { raw = (one.raw_is, one.closed raw.1, others.raw); closed = others.closed; replaced = (one.replaced, others.replaced) }

  -- the new record is not empty if the old one is not
  some_answered : (asked : List Range) (raws : List (List ℕ)) (answers : List FieldAnswer) → IsDelimiter d → AreRaw d Start raws → AreAnswers A keeps d asked 0 raws answers
      → joined d raws ≢ [] → joined d (texts answers) ≢ []
  unfolding AreRaw texts joined joined_more
  some_answered asked [] answers is raw are some = absurd raw
  some_answered asked (first ∷ raws) [] is raw are some = absurd are
  some_answered asked (first ∷ []) (answer ∷ []) is raw are some = λ e.
      (answered (is_asked asked 0) first answer is raw are.0).some (λ none. some (append-nil first ∙ none)) (sym (append-nil answer.text) ∙ e)
  some_answered asked (first ∷ []) (answer ∷ more ∷ answers) is raw are some = absurd are.1
  some_answered asked (first ∷ next ∷ raws) (answer ∷ []) is raw are some = absurd are.1
  some_answered asked (first ∷ next ∷ raws) (answer ∷ more ∷ answers) is raw are some = λ e.
      absurd (omega (arith, ap length e, length-append answer.text (d ∷ more.text ++ joined_more d (texts answers))))

  -- ---- the body of a record
  pub record NewBody (asked : List Range) (body new : List ℕ) : Type 0 where
    pub unended : IsUnended d Start new
    pub closed : places_after d Start body ≢ Quoted → places_after d Start new ≢ Quoted
    pub some : new ≢ []
    pub replaced : AreReplaced A keeps asked 0 (field_texts d body) (field_texts d new)

  new_body : (asked : List Range) (body : List ℕ) (answers : List FieldAnswer) → IsDelimiter d → IsUnended d Start body → body ≢ []
      → AreAnswers A keeps d asked 0 (raw_fields d Start body) answers → NewBody asked body (answers_text d 0 answers)
  new_body asked body answers is unended some are =
      let cut = cut_of d Start body unended in
      let raws = cut.first ∷ cut.rest in
      let are' : AreAnswers A keeps d asked 0 raws answers = subst (λ l. AreAnswers A keeps d asked 0 l answers) cut.are are in
      let all = all_answered asked 0 raws answers is cut.raw are' in
      let joins = joins d Start (texts answers) is all.raw in
      let text = texts_joined d answers in
      let whole : joined d raws ≡ body = ap (joined d) (sym cut.are) ∙ joined_is d Start body in
      record {
        unended = subst (IsUnended d Start) (sym text) joins.unended;
        closed = λ other e. all.closed (λ q. other (sym cut.last ∙ q)) (sym joins.place ∙ ap (places_after d Start) (sym text) ∙ e);
        some = λ e. some_answered asked raws answers is cut.raw are' (λ none. some (sym whole ∙ none)) (sym text ∙ e);
        replaced = subst (λ l. AreReplaced A keeps asked 0 (map (content Start) l) (field_texts d (answers_text d 0 answers))) (sym cut.are)
            (subst (λ l. AreReplaced A keeps asked 0 (map (content Start) raws) (map (content Start) l)) (sym (ap (raw_fields d Start) text ∙ joins.fields)) all.replaced);
      }

-- ---- a record with one more field
raw_append : (d : ℕ) (p : Place) (raws : List (List ℕ)) (field : List ℕ) → AreRaw d p raws → last_place d p raws ≢ Quoted → IsRaw d Start field → AreRaw d p (raws ++ field ∷ [])
unfolding AreRaw last_place
raw_append d p [] field are closed one = absurd are
raw_append d p (raw ∷ []) field are closed one = (are, closed, one)
raw_append d p (raw ∷ next ∷ raws) field are closed one = (are.0, are.1, raw_append d Start (next ∷ raws) field are.2 closed one)

last_append : (d : ℕ) (p : Place) (raws : List (List ℕ)) (field : List ℕ) → AreRaw d p raws → last_place d p (raws ++ field ∷ []) ≡ places_after d Start field
unfolding AreRaw last_place
last_append d p [] field are = absurd are
last_append d p (raw ∷ []) field are = refl
last_append d p (raw ∷ next ∷ raws) field are = last_append d Start (next ∷ raws) field are.2

joined_more_append : (d : ℕ) (raws : List (List ℕ)) (field : List ℕ) → joined_more d (raws ++ field ∷ []) ≡ joined_more d raws ++ d ∷ field
unfolding joined_more
joined_more_append d [] field = ap (λ l. d ∷ l) (append-nil field)
joined_more_append d (raw ∷ raws) field =
    ap (λ l. (d ∷ raw) ++ l) (joined_more_append d raws field) ∙ sym (append_assoc (d ∷ raw) (joined_more d raws) (d ∷ field))

joined_append : (d : ℕ) (first : List ℕ) (rest : List (List ℕ)) (field : List ℕ) → joined d ((first ∷ rest) ++ field ∷ []) ≡ joined d (first ∷ rest) ++ d ∷ field
unfolding joined
joined_append d first rest field = ap (λ l. first ++ l) (joined_more_append d rest field) ∙ sym (append_assoc first (joined_more d rest) (d ∷ field))

pub record Longer (d : ℕ) (body field : List ℕ) : Type 0 where
  pub unended : IsUnended d Start (body ++ d ∷ field)
  pub fields : raw_fields d Start (body ++ d ∷ field) ≡ raw_fields d Start body ++ field ∷ []
  pub closed : places_after d Start (body ++ d ∷ field) ≢ Quoted

longer_of : (d : ℕ) (body field : List ℕ) → IsDelimiter d → IsUnended d Start body → places_after d Start body ≢ Quoted → IsRaw d Start field → places_after d Start field ≢ Quoted
    → Longer d body field
longer_of d body field is unended closed raw_is field_closed =
    let cut = cut_of d Start body unended in
    let raws = cut.first ∷ cut.rest in
    let are = raw_append d Start raws field cut.raw (λ e. closed (sym cut.last ∙ e)) raw_is in
    let all = joins d Start (raws ++ field ∷ []) is are in
    let whole : joined d (raws ++ field ∷ []) ≡ body ++ d ∷ field =
    joined_append d cut.first cut.rest field ∙ ap (λ l. l ++ d ∷ field) (ap (joined d) (sym cut.are) ∙ joined_is d Start body) in
    record {
      unended = subst (IsUnended d Start) whole all.unended;
      fields = ap (raw_fields d Start) (sym whole) ∙ all.fields ∙ ap (λ l. l ++ field ∷ []) (sym cut.are);
      closed = λ e. field_closed (sym (last_append d Start raws field cut.raw) ∙ sym all.place ∙ ap (places_after d Start) whole ∙ e);
    }

map_append : (xs ys : List (List ℕ)) → map (content Start) (xs ++ ys) ≡ map (content Start) xs ++ map (content Start) ys
map_append [] ys = refl
map_append (x ∷ xs) ys = ap (λ l. content Start x ∷ l) (map_append xs ys)

longer_texts : (d : ℕ) (body field text : List ℕ) → Longer d body field → content Start field ≡ text → field_texts d (body ++ d ∷ field) ≡ field_texts d body ++ text ∷ []
longer_texts d body field text longer is =
    ap (map (content Start)) longer.fields ∙ map_append (raw_fields d Start body) (field ∷ []) ∙ ap (λ l. field_texts d body ++ l ∷ []) is

content_at : (raws : List (List ℕ)) (k : ℕ) → content Start (get_or raws k []) ≡ get_or (map (content Start) raws) k []
content_at [] k = plain_none
content_at (raw ∷ raws) zero = refl
content_at (raw ∷ raws) (suc k) = content_at raws k

start_open : Start ≢ Quoted
start_open = λ e. cc e

no_field : (d : ℕ) → IsRaw d Start [] × (places_after d Start [] ≢ Quoted)
unfolding IsRaw places_after
no_field d = (tt, start_open)

raw_at : (d : ℕ) (p : Place) (raws : List (List ℕ)) (k : ℕ) → p ≡ Start → AreRaw d p raws → last_place d p raws ≢ Quoted
    → IsRaw d Start (get_or raws k []) × (places_after d Start (get_or raws k []) ≢ Quoted)
unfolding AreRaw last_place
raw_at d p [] k start are closed = absurd are
raw_at d p (raw ∷ []) zero start are closed = (subst (λ q. IsRaw d q raw) start are, subst (λ q. places_after d q raw ≢ Quoted) start closed)
raw_at d p (raw ∷ []) (suc k) start are closed = no_field d
raw_at d p (raw ∷ next ∷ raws) zero start are closed = (subst (λ q. IsRaw d q raw) start are.0, subst (λ q. places_after d q raw ≢ Quoted) start are.1)
raw_at d p (raw ∷ next ∷ raws) (suc k) start are closed = raw_at d Start (next ∷ raws) k refl are.2 closed

-- if a record ends outside quotes, each of its fields does
field_raw : (d : ℕ) (body : List ℕ) (k : ℕ) → IsUnended d Start body → places_after d Start body ≢ Quoted
    → IsRaw d Start (get_or (raw_fields d Start body) k []) × (places_after d Start (get_or (raw_fields d Start body) k []) ≢ Quoted)
field_raw d body k unended closed =
    let cut = cut_of d Start body unended in
    let at = raw_at d Start (cut.first ∷ cut.rest) k refl cut.raw (λ e. closed (sym cut.last ∙ e)) in
    subst (λ l. IsRaw d Start (get_or l k []) × (places_after d Start (get_or l k []) ≢ Quoted)) (sym cut.are) at

line_of : (p : Place) (byte : ℕ) → ends_record p byte ≡ true → ((byte == 10) || (byte == 13)) ≡ true
line_of Start byte is = is
line_of Inside byte is = is
line_of Quoted byte is = absurd (false≢true is)
line_of AfterQuote byte is = is

line_to : (p : Place) (byte : ℕ) → p ≢ Quoted → ((byte == 10) || (byte == 13)) ≡ true → ends_record p byte ≡ true
line_to Start byte other is = is
line_to Inside byte other is = is
line_to Quoted byte other is = absurd (other refl)
line_to AfterQuote byte other is = is

line_outside : (p : Place) (byte : ℕ) → ends_record p byte ≡ true → p ≢ Quoted
line_outside Start byte is = λ e. cc e
line_outside Inside byte is = λ e. cc e
line_outside Quoted byte is = absurd (false≢true is)
line_outside AfterQuote byte is = λ e. cc e

module _ (A : List ℕ → AnswerText → Type 0) (keeps : Keeping) (d : ℕ) (columns : List Column) where
  -- the row written for a row
  pub record NewRow (s : State) (row : Row) (text : List ℕ) : Type 0 where
    pub new : Row
    pub text_is : text ≡ row_text new
    pub replaced : IsReplacedRow A keeps d s row new
    pub ended : IsEnded d row → IsEnded d new
    pub last : IsLast d row → IsLast d new

  stays_row : (s : State) (row : Row) (text : List ℕ) → IsReplacedRow A keeps d s row row → text ≡ row_text row → NewRow s row text
  stays_row s row text replaced is = record { new = row; text_is = is; replaced = replaced; ended = λ x. x; last = λ x. x }

  -- a row with one more field
  longer_row : (s : State) (row : Row) (field text : List ℕ) → row.body ≢ [] → Longer d row.body field
      → IsRecordOf A keeps d s.asked s.headed s.into row (record { body = row.body ++ d ∷ field; end = row.end }) → text ≡ row.body ++ d ∷ field ++ row.end → NewRow s row text
  longer_row s row field text some longer is text_is = record {
    new = record { body = row.body ++ d ∷ field; end = row.end };
    text_is = text_is;
    replaced = inr (some, is);
    ended = λ old. record {
      unended = longer.unended;
      byte = old.byte;
      ends = line_to (places_after d Start (row.body ++ d ∷ field)) old.byte longer.closed (line_of (places_after d Start row.body) old.byte old.ends);
      is_end = old.is_end;
    };
    last = λ old. record { unended = longer.unended; some = λ e. absurd (omega (arith, ap length e, length-append row.body (d ∷ field))); closed = longer.closed; is_end = old.is_end };
  }

  header_row : (s t : State) (row : Row) (text : List ℕ) (into : Option (List ℕ)) → IsDelimiter d → IsUnended d Start row.body → places_after d Start row.body ≢ Quoted → row.body ≢ []
      → s.into ≡ into → PassesHeader d columns s row text t → NewRow s row text
  header_row s t row text None is unended closed some into header =
      stays_row s row text (inr (some, rw (header.next, into) refl)) (header.text_is ∙ rw into (ap (λ l. l ++ row.end) (append-nil row.body)))
  header_row s t row text (Some name) is unended closed some into header =
      let means = field_means d name (calls_for_quotes d name) is refl in
      let longer = longer_of d row.body (as_field d name) is unended closed means.raw_is means.closed in
      longer_row s row (as_field d name) text some longer
      (rw (header.next, into) (record { end = refl; texts = longer_texts d row.body (as_field d name) name longer means.text_is }))
      (header.text_is ∙ rw into refl)

  appended_row : (s t : State) (row : Row) (text : List ℕ) → IsDelimiter d → IsUnended d Start row.body → places_after d Start row.body ≢ Quoted → row.body ≢ []
      → AppendsField A keeps d s row text t → NewRow s row text
  appended_row s t row text is unended closed some one =
      let k = first_asked s.asked in
      let raw = get_or (raw_fields d Start row.body) k [] in
      let at = field_raw d row.body k unended closed in
      let new = answered A keeps d true raw one.answer is at.0 one.is in
      let longer = longer_of d row.body one.answer.text is unended closed new.raw_is (new.closed at.1) in
      let replaced = subst (λ l. IsReplaced A keeps true l (content Start one.answer.text)) (content_at (raw_fields d Start row.body) k) new.replaced in
      longer_row s row one.answer.text text some longer
      (rw (one.known, one.into) (content Start one.answer.text, replaced, record { end = refl; texts = longer_texts d row.body one.answer.text (content Start one.answer.text) longer refl }))
      one.text_is

  fields_row : (s t : State) (row : Row) (text : List ℕ) → IsDelimiter d → IsUnended d Start row.body → row.body ≢ [] → AnswersFields A keeps d s row text t → NewRow s row text
  fields_row s t row text is unended some one =
      let body = answers_text d 0 one.answers in
      let new = new_body A keeps d s.asked row.body one.answers is unended some one.are in
      record {
        new = record { body = body; end = row.end };
        text_is = one.text_is;
        replaced = inr (some, rw (one.known, one.in_place) (refl, new.replaced));
        ended = λ old. record {
          unended = new.unended;
          byte = old.byte;
          ends = line_to (places_after d Start body) old.byte (new.closed (line_outside (places_after d Start row.body) old.byte old.ends))
              (line_of (places_after d Start row.body) old.byte old.ends);
          is_end = old.is_end;
        };
        last = λ old. record { unended = new.unended; some = new.some; closed = new.closed old.closed; is_end = old.is_end };
      }

  some_row : (s t : State) (row : Row) (text : List ℕ) → IsDelimiter d → IsUnended d Start row.body → places_after d Start row.body ≢ Quoted → row.body ≢ []
      → PassesHeader d columns s row text t ⊎ (AnswersFields A keeps d s row text t ⊎ AppendsField A keeps d s row text t) → NewRow s row text
  some_row s t row text is unended closed some (inl header) = header_row s t row text s.into is unended closed some refl header
  some_row s t row text is unended closed some (inr (inl fields)) = fields_row s t row text is unended some fields
  some_row s t row text is unended closed some (inr (inr one)) = appended_row s t row text is unended closed some one

  new_row : (s t : State) (row : Row) (text : List ℕ) → IsDelimiter d → IsUnended d Start row.body → places_after d Start row.body ≢ Quoted → AnswersRow A keeps d columns s row text t
      → NewRow s row text
  new_row s t row text is unended closed (inl empty) = stays_row s row text (inl (empty.empty, refl)) (empty.text_is ∙ ap (λ l. l ++ row.end) (sym empty.empty))
  new_row s t row text is unended closed (inr some) = some_row s t row text is unended closed some.0 some.1

  no_news : (s t : State) (rows news : List Row) → rows ≡ [] → AreReplacedRows A keeps d columns s rows news t → news ≡ []
  no_news s t rows [] none are = refl
  no_news s t rows (new ∷ news) none are = absurd (subst (λ l. AreReplacedRows A keeps d columns s l (new ∷ news) t) none are)

  pub news_of : (s t : State) (rows : List Row) (text : List ℕ) → IsDelimiter d → AreRows d rows → AnswersRows A keeps d columns s rows text t
      → (news : List Row) × (text ≡ rows_text news) × AreRows d news × AreReplacedRows A keeps d columns s rows news t
  news_of s t [] text is rows_are answers = ([], answers.0, tt, answers.1)
  news_of s t (row ∷ rows) text is (inl ended) answers =
      let one = new_row s answers.2 row answers.0 is ended.0.unended (line_outside (places_after d Start row.body) ended.0.byte ended.0.ends) answers.3 in
      let others = news_of answers.2 t rows answers.1 is ended.1 answers.4 in (
        one.new ∷ others.0,
        answers.5 ∙ ap (λ l. l ++ answers.1) one.text_is ∙ ap (λ l. row_text one.new ++ l) others.1,
        inl (one.ended ended.0, others.2),
        (answers.2, subst (λ l. AnswersRow A keeps d columns s row l answers.2) one.text_is answers.3, one.replaced, others.3),
      )
  news_of s t (row ∷ rows) text is (inr last) answers =
      let one = new_row s answers.2 row answers.0 is last.0.unended last.0.closed answers.3 in
      let none : AreRows d rows = subst (AreRows d) (sym last.1) tt in
      let others = news_of answers.2 t rows answers.1 is none answers.4 in (
        one.new ∷ others.0,
        answers.5 ∙ ap (λ l. l ++ answers.1) one.text_is ∙ ap (λ l. row_text one.new ++ l) others.1,
        inr (one.last last.0, no_news answers.2 t rows others.0 last.1 others.3),
        (answers.2, subst (λ l. AnswersRow A keeps d columns s row l answers.2) one.text_is answers.3, one.replaced, others.3),
      )

pub fields_are_replaced : (A : List ℕ → AnswerText → Type 0) → FieldsAreReplaced A
fields_are_replaced A keeps d columns s t rows text is rows_are answers = news_of A keeps d columns s t rows text is rows_are answers
