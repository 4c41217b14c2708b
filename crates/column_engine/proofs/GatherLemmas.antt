-- Pieces of the output, gathered and written one after another.
use Rattle.std.proofs.Common.{◌≡◌, ◌+◌, ◌==◌, List, ℕ, suc, [], ◌∷◌, ◌++◌, Bool, false, refl, sym, ap, ◌∙◌, append_assoc, append-nil, length, arith, if◌then◌else◌, subst}
use Rattle.std.proofs.KnownBytes.{Appends-trans, Appends-nil}
use Rattle.std.specs.Prelude.{Option, Result, Ok, Err, IfOk, OnErr}
use Rattle.std.specs.Io.KnownBytes.{Appends}
use Rattle.line_engine.specs.AnswerText.{AnswerText}
use Rattle.line_engine.specs.Inner.Progress.{Flushes}
use Rattle.line_engine.specs.Output.{AppendsPrefix}
use Rattle.column_engine.specs.Answers.{AreAnswers, FieldAnswer, IsAnswer, answers_text, before_field, count_refused, is_asked}
use Rattle.column_engine.specs.Gathered.{GathersField, GathersFields, GathersPart}
use Rattle.column_engine.specs.declared.columns.Keeping.{Keeping}
use Rattle.column_engine.specs.declared.columns.Range.{Range}

-- no new piece
pub flushes_none : (held : List ℕ) (a : Option (List ℕ)) → Flushes held [] held a a
flushes_none held a = record { gone = []; split = append-nil held; appends = Appends-nil a }

-- two pieces, one after the other
pub flushes_both : (held more most held' held'' : List ℕ) (a b c : Option (List ℕ)) → Flushes held more held' a b → Flushes held' most held'' b c → Flushes held (more ++ most) held'' a c
flushes_both held more most held' held'' a b c first next = record {
  gone = first.gone ++ next.gone;
  split = sym (append_assoc held more most) ∙ ap (λ l. l ++ most) first.split ∙ append_assoc first.gone held' most ∙ ap (λ l. first.gone ++ l) next.split ∙ sym (append_assoc first.gone next.gone held'');
  appends = Appends-trans a b c first.gone next.gone first.appends next.appends;
}

-- one more piece, still to be gathered
pub flushes_more : (held more held' most : List ℕ) (a b : Option (List ℕ)) → Flushes held more held' a b → Flushes held (more ++ most) (held' ++ most) a b
flushes_more held more held' most a b first = record {
  gone = first.gone;
  split = sym (append_assoc held more most) ∙ ap (λ l. l ++ most) first.split ∙ append_assoc first.gone held' most;
  appends = first.appends;
}

-- a piece was gathered, and nothing was written
pub flushes_push : (held more : List ℕ) (a : Option (List ℕ)) → Flushes held more (held ++ more) a a
flushes_push held more a = record { gone = []; split = refl; appends = Appends-nil a }

-- a prefix of the gathered bytes was written
pub flushes_prefix : (held : List ℕ) (a b : Option (List ℕ)) → AppendsPrefix a b held → (left : List ℕ) × Flushes held [] left a b
flushes_prefix held a b part = (part.rest, record { gone = part.prefix; split = append-nil held ∙ part.split; appends = part.appends })

-- all gathered bytes were written
pub flushes_all : (held : List ℕ) (a b : Option (List ℕ)) → Appends a b held → Flushes held [] [] a b
flushes_all held a b all = record { gone = held; split = refl; appends = all }

pub prefix_flushes : (text left : List ℕ) (a b : Option (List ℕ)) → Flushes [] text left a b → AppendsPrefix a b text
prefix_flushes text left a b part = record { prefix = part.gone; rest = left; split = part.split; appends = part.appends }

pub all_flushes : (text : List ℕ) (a b : Option (List ℕ)) → Flushes [] text [] a b → Appends a b text
all_flushes text a b all = subst (Appends a b) (sym (all.split ∙ append-nil all.gone)) all.appends

pub put_part : (held bytes : List ℕ) (a b : Option (List ℕ)) → AppendsPrefix a b held → (left : List ℕ) × Flushes held bytes left a b
put_part held bytes a b part = (part.rest ++ bytes, record { gone = part.prefix; split = ap (λ l. l ++ bytes) part.split ∙ append_assoc part.prefix part.rest bytes; appends = part.appends })

pub put_whole : (held left bytes : List ℕ) (a b c : Option (List ℕ)) → left ≡ [] → Appends a b held → Appends b c bytes → Flushes held bytes left a c
put_whole held left bytes a b c none first next =
    rw none (record { gone = held ++ bytes; split = sym (append-nil (held ++ bytes)); appends = Appends-trans a b c held bytes first next })

pub put_rest : (held bytes : List ℕ) (a b c : Option (List ℕ)) → Appends a b held → AppendsPrefix b c bytes → (left : List ℕ) × Flushes held bytes left a c
put_rest held bytes a b c first part = (
  part.rest,
  record {
    gone = held ++ part.prefix;
    split = ap (λ l. held ++ l) part.split ∙ sym (append_assoc held part.prefix part.rest);
    appends = Appends-trans a b c held part.prefix first part.appends;
  },
)

-- a delimiter precedes every field but the first
pub before_later : (d column : ℕ) → before_field d (column + 1) ≡ d ∷ []
before_later d column =
    let later : (column + 1 == 0) ≡ false = grind arith in
    rw later refl

-- the first part of a piece counts as new instead of gathered before
pub flushes_held : (held part text new : List ℕ) (a b : Option (List ℕ)) → Flushes (held ++ part) text new a b → Flushes held (part ++ text) new a b
flushes_held held part text new a b all = record { gone = all.gone; split = sym (append_assoc held part text) ∙ all.split; appends = all.appends }

-- the first part of a piece counts as gathered before instead of new
pub flushes_on : (held part text new : List ℕ) (a b : Option (List ℕ)) → Flushes held (part ++ text) new a b → Flushes (held ++ part) text new a b
flushes_on held part text new a b all = record { gone = all.gone; split = append_assoc held part text ∙ all.split; appends = all.appends }

pub on_err : {T E P : Type 0} (r : Result T E) → P → OnErr r P
on_err (Ok x) p = tt
on_err (Err e) p = p

pub if_ok : {T E : Type 0} (r : Result T E) (P Q : T → Type 0) → ((x : T) → P x → Q x) → IfOk r P → IfOk r Q
if_ok (Ok x) P Q f p = f x p
if_ok (Err e) P Q f p = tt

-- ---- the answers to fields
module _ (A : List ℕ → AnswerText → Type 0) (keeps : Keeping) (d : ℕ) (asked : List Range) where
  answers_more : (column : ℕ) (raws : List (List ℕ)) (answers : List FieldAnswer) (raw : List ℕ) (answer : FieldAnswer)
      → AreAnswers A keeps d asked column raws answers → IsAnswer A keeps d (is_asked asked (column + length raws)) raw answer
      → AreAnswers A keeps d asked column (raws ++ raw ∷ []) (answers ++ answer ∷ [])
  answers_more column [] [] raw answer before one = let same : column + 0 ≡ column = omega arith in (subst (λ c. IsAnswer A keeps d (is_asked asked c) raw answer) same one, tt)
  answers_more column [] (a ∷ answers) raw answer before one = absurd before
  answers_more column (r ∷ raws) [] raw answer before one = absurd before
  answers_more column (r ∷ raws) (a ∷ answers) raw answer before one =
      let same : column + suc (length raws) ≡ column + 1 + length raws = omega arith in
      (before.0, answers_more (column + 1) raws answers raw answer before.1 (subst (λ c. IsAnswer A keeps d (is_asked asked c) raw answer) same one))

  text_more : (column : ℕ) (raws : List (List ℕ)) (answers : List FieldAnswer) (answer : FieldAnswer) → AreAnswers A keeps d asked column raws answers
      → answers_text d column (answers ++ answer ∷ []) ≡ answers_text d column answers ++ (before_field d (column + length raws) ++ answer.text)
  text_more column [] [] answer before = let same : column ≡ column + 0 = omega arith in append-nil (before_field d column ++ answer.text) ∙ ap (λ c. before_field d c ++ answer.text) same
  text_more column [] (a ∷ answers) answer before = absurd before
  text_more column (r ∷ raws) [] answer before = absurd before
  text_more column (r ∷ raws) (a ∷ answers) answer before =
      let same : column + 1 + length raws ≡ column + suc (length raws) = omega arith in
      ap (λ l. (before_field d column ++ a.text) ++ l)
      (text_more (column + 1) raws answers answer before.1 ∙ ap (λ c. answers_text d (column + 1) answers ++ (before_field d c ++ answer.text)) same)
      ∙ sym (append_assoc (before_field d column ++ a.text) (answers_text d (column + 1) answers) (before_field d (column + suc (length raws)) ++ answer.text))

  refused_more : (answers : List FieldAnswer) (answer : FieldAnswer) → count_refused (answers ++ answer ∷ []) ≡ count_refused answers + (if answer.refused then 1 else 0)
  refused_more [] answer = omega arith
  refused_more (a ∷ answers) answer = omega (arith, refused_more answers answer)

  pub fields_none : (held : List ℕ) (written : Option (List ℕ)) → GathersFields A keeps d asked 0 [] 0 held held written written
  fields_none held written = record { answers = []; are = tt; refused_is = refl; gathered = flushes_none held written }

  pub fields_one : (raws : List (List ℕ)) (raw : List ℕ) (column count : ℕ) (refused : Bool) (held mid new : List ℕ) (a b c : Option (List ℕ))
      → column ≡ length raws → GathersFields A keeps d asked 0 raws count held mid a b
      → GathersField A keeps d (is_asked asked column) raw refused (mid ++ before_field d column) new b c
      → GathersFields A keeps d asked 0 (raws ++ raw ∷ []) (count + (if refused then 1 else 0)) held new a c
  fields_one raws raw column count refused held mid new a b c is before one =
      let answer : FieldAnswer = record { text = one.text; refused = refused } in
      let place : column ≡ 0 + length raws = omega (arith, is) in
      record {
        answers = before.answers ++ answer ∷ [];
        are = answers_more 0 raws before.answers raw answer before.are (subst (λ k. IsAnswer A keeps d (is_asked asked k) raw answer) place one.answer);
        refused_is = rw (refused_more before.answers answer, before.refused_is) refl;
        gathered = rw (text_more 0 raws before.answers answer before.are, ← place)
            (flushes_both held (answers_text d 0 before.answers) (before_field d column ++ one.text) mid new a b c before.gathered
            (flushes_held mid (before_field d column) one.text new b c one.gathered));
      }

  pub part_one : (all some more : List (List ℕ)) (raw : List ℕ) (column count : ℕ) (held mid : List ℕ) (a b c : Option (List ℕ))
      → all ≡ (some ++ raw ∷ []) ++ more → column ≡ length some → GathersFields A keeps d asked 0 some count held mid a b
      → ((refused : Bool) × (left : List ℕ) × GathersField A keeps d (is_asked asked column) raw refused (mid ++ before_field d column) left b c)
      → GathersPart A keeps d asked all held a c
  part_one all some more raw column count held mid a b c cut is before one = record {
    some = some ++ raw ∷ [];
    more = more;
    cut = cut;
    refused = count + (if one.0 then 1 else 0);
    left = one.1;
    fields = fields_one some raw column count one.0 held mid one.1 a b c is before one.2;
  }

  -- bytes that were still to be gathered after the fields were gathered or written
  pub fields_on : (raws : List (List ℕ)) (count : ℕ) (held out part new : List ℕ) (a b c : Option (List ℕ))
      → GathersFields A keeps d asked 0 raws count held (out ++ part) a b → Flushes out part new b c → GathersFields A keeps d asked 0 raws count held new a c
  fields_on raws count held out part new a b c before last = record {
    answers = before.answers;
    are = before.are;
    refused_is = before.refused_is;
    gathered = subst (λ l. Flushes held l new a c) (append-nil (answers_text d 0 before.answers))
        (flushes_both held (answers_text d 0 before.answers) [] (out ++ part) new a b c before.gathered
        (flushes_on out part [] new b c (subst (λ l. Flushes out l new b c) (sym (append-nil part)) last)));
  }

  pub part_all : (raws : List (List ℕ)) (count : ℕ) (held left : List ℕ) (a c : Option (List ℕ))
      → GathersFields A keeps d asked 0 raws count held left a c → GathersPart A keeps d asked raws held a c
  part_all raws count held left a c fields = record { some = raws; more = []; cut = sym (append-nil raws); refused = count; left = left; fields = fields }
