-- The written text is the answer to the list, by what is known of the list.
use Rattle.std.proofs.Common.{◌≡◌, ℕ, zero, suc, ◌+◌, ◌<◌, ◌≤◌, ◌⊎◌, ◌||◌, Bool, true, false, IsTrue, nat_lt, max, List, [], Option, Some, None, refl, sym, ◌∙◌, subst, arith, inl, inr, ⊎_elim}
use Rattle.std.proofs.lemmas.Bool.{cases_lt, lt-ltb, le-ltb}
use Rattle.fixed_bits.specs.Formats.{FormatParts}
use Rattle.fixed_least.specs.Holding.{AllNumerals}
use Rattle.fixed_least.specs.Least.{IsFaultAnswer, IsNoNumeral, fault_line}
use Rattle.fixed_least.specs.declared.least.LeastFault.{LeastFault}
use Rattle.fixed_numeral.specs.declared.radix.Radix.{Radix}
use Rattle.line_engine.specs.AnswerText.{AnswerText}
use Rattle.line_engine.specs.Lines.{lines}
use Rattle.fixed_fit.specs.Answer.{IsFoundAnswer, IsNoneAnswer, IsReason}
use Rattle.fixed_fit.specs.Fitting.{HasBelowZero, IsFinest, IsFirstExceeding, IsSignRule, choice, frac_lengths}
use Rattle.fixed_fit.specs.Inner.Lengths.{AreLengths, IsLengthsAnswer, reason_of}
use Rattle.fixed_error.specs.Errors.{HasGreatestErrors}
use Rattle.fixed_fit.specs.ErrorWord.{entries_from}
use Rattle.fixed_fit.specs.Inner.Reading.{HasLines}
use Rattle.fixed_fit.specs.Inner.Serving.{unbounded}
use Rattle.fixed_fit.specs.declared.reader.Reader.{Reader}
use Rattle.fixed_fit.specs.Inner.Progress.{AreFitted, HasProgress, IsKnown}
use Rattle.fixed_fit.specs.declared.lengths.Lengths.{Lengths}
use Rattle.fixed_fit.specs.declared.progress.Progress.{Progress}
use Rattle.fixed_fit.specs.declared.question.Fractions.{Fractions}
use Rattle.fixed_fit.specs.declared.question.Question.{Question}
use Rattle.fixed_fit.proofs.FittingLemmas.{all_fit_each_shorter, exceeding_not}

-- the longest of the remaining fraction lengths is the finest
finest_by : (r : Radix) (list : List (List ℕ)) (a : Fractions) (s : Bool) (n f place : ℕ) → AreLengths a r list (record { kind = record { signed = s; width = n; frac = 0 }; count = suc f; place = place }) → IsFinest r (choice s a) n list f
finest_by r list a s n f place h = record {
  chosen = omega (arith, h.most);
  fit = h.fit f (omega arith);
  greatest = λ g more chosen all. exceeding_not r s n (suc f) list place (h.first (omega (arith, more, chosen))) (all_fit_each_shorter r s n g (suc f) list (omega (arith, more)) all);
}

no_less : (a b : ℕ) → ¬ (a < b) → b ≤ a
no_less a b not = ⊎_elim (λ (less : a < b). absurd (not less)) (λ (most : b ≤ a). most) (cases_lt a b)

pub reason_by : (q : Question) (s : Bool) (list : List (List ℕ)) (f place : ℕ) → (suc f < frac_lengths q.fractions q.kind.width → IsFirstExceeding q.radix s q.kind.width (suc f) list place) → IsReason q s list f (reason_of q.fractions q.is_reason_asked s q.kind.width f place)
reason_by q s list f place first = record {
  unasked = λ e. rw e refl;
  no_next = λ past. none q.is_reason_asked (le-ltb (f + 1) (frac_lengths q.fractions q.kind.width) (no_less (f + 1) (frac_lengths q.fractions q.kind.width) past));
  next = λ e less.
      let h : nat_lt (f + 1) (frac_lengths q.fractions q.kind.width) ≡ true = lt-ltb (f + 1) (frac_lengths q.fractions q.kind.width) less in
      let P : ℕ → Type 0 = λ g. IsFirstExceeding q.radix s q.kind.width g list place in
      let same : suc f ≡ f + 1 = omega arith in
      (place, subst P same (first (omega (arith, less))), rw (e, h) refl);
}
  where
    none : (asked : Bool) → nat_lt (f + 1) (frac_lengths q.fractions q.kind.width) ≡ false → reason_of q.fractions asked s q.kind.width f place ≡ []
    none true h = rw h refl
    none false h = refl

answer_by : (q : Question) (s : Bool) (list : List (List ℕ)) (count place : ℕ) (answer : AnswerText) → AllNumerals q.radix list → IsSignRule q.radix q.kind.signed list s
    → AreLengths q.fractions q.radix list (record { kind = record { signed = s; width = q.kind.width; frac = 0 }; count = count; place = place })
    → IsLengthsAnswer q list (record { kind = record { signed = s; width = q.kind.width; frac = 0 }; count = count; place = place }) answer → IsFoundAnswer q list answer ⊎ IsNoneAnswer q list answer
answer_by q s list zero place answer numerals sign h a = inr (record {
  numerals = numerals;
  signed = s;
  sign = sign;
  place = place;
  never = λ none. h.never (let most = no_less 0 (frac_lengths q.fractions q.kind.width) none in omega (arith, most));
  first = λ some. h.first some;
  text = a.none_text refl;
  fault = a.none_fault refl;
})
answer_by q s list (suc f) place answer numerals sign h a =
    let one : suc f ≡ f + 1 = omega arith in
    let said = a.some f one in
    inl (record {
      numerals = numerals;
      signed = s;
      sign = sign;
      frac = f;
      finest = finest_by q.radix list q.fractions s q.kind.width f place h;
      error = said.error;
      is_error = said.is_error;
      reason = reason_of q.fractions q.is_reason_asked s q.kind.width f place;
      is_reason = reason_by q s list f place h.first;
      text = said.text;
      fault = said.fault;
    })

lengths_answered : (q : Question) (s : Bool) (list : List (List ℕ)) (l : Lengths) (answer : AnswerText) → AllNumerals q.radix list → IsSignRule q.radix q.kind.signed list s → l.kind ≡ record { signed = s; width = q.kind.width; frac = 0 }
    → AreLengths q.fractions q.radix list l → IsLengthsAnswer q list l answer → IsFoundAnswer q list answer ⊎ IsNoneAnswer q list answer
lengths_answered q s list l answer numerals sign kind h a =
    let P : FormatParts → Type 0 = λ k. AreLengths q.fractions q.radix list (record { kind = k; count = l.count; place = l.place }) in
    let Q : FormatParts → Type 0 = λ k. IsLengthsAnswer q list (record { kind = k; count = l.count; place = l.place }) answer in
    answer_by q s list l.count l.place answer numerals sign (subst P kind h) (subst Q kind a)

fitted : (q : Question) (list : List (List ℕ)) (p : Progress) → HasProgress q.kind.width list p → p.radix ≡ q.radix → p.fault ≡ None → AreFitted q.kind.width list p
fitted q list p h same none = let P : Option LeastFault → Type 0 = λ f. IsKnown q.kind.width list p f in subst P none h.known

pub signed_answer : (q : Question) (list : List (List ℕ)) (p : Progress) (answer : AnswerText) → HasProgress q.kind.width list p → p.radix ≡ q.radix → p.fractions ≡ q.fractions → p.fault ≡ None → (q.kind.signed || p.is_below) ≡ true → IsLengthsAnswer q list p.signed answer → IsFoundAnswer q list answer ⊎ IsNoneAnswer q list answer
signed_answer q list p answer h same fractions none either a =
    let known : AreFitted q.kind.width list p = fitted q list p h same none in
    let N : Radix → Type 0 = λ r. AllNumerals r list in
    let L : Fractions → Radix → Type 0 = λ a r. AreLengths a r list p.signed in
    let B : Radix → Type 0 = λ r. HasBelowZero r list in
    lengths_answered q true list p.signed answer (subst N same known.numerals) (rule q.kind.signed p.is_below either (λ t. subst B same (known.below.0 t))) h.signed_kind (subst (L q.fractions) same (subst (λ (a : Fractions). L a p.radix) fractions known.signed)) a
  where
    rule : (asked below : Bool) → (asked || below) ≡ true → (IsTrue below → HasBelowZero q.radix list) → IsSignRule q.radix asked list true
    rule true below e found = inl refl
    rule false below e found = inr (found e)

pub plain_answer : (q : Question) (list : List (List ℕ)) (p : Progress) (answer : AnswerText) → HasProgress q.kind.width list p → p.radix ≡ q.radix → p.fractions ≡ q.fractions → p.fault ≡ None → (q.kind.signed || p.is_below) ≡ false → IsLengthsAnswer q list p.plain answer → IsFoundAnswer q list answer ⊎ IsNoneAnswer q list answer
plain_answer q list p answer h same fractions none neither a =
    let known : AreFitted q.kind.width list p = fitted q list p h same none in
    let N : Radix → Type 0 = λ r. AllNumerals r list in
    let L : Fractions → Radix → Type 0 = λ a r. AreLengths a r list p.plain in
    let B : Radix → Type 0 = λ r. HasBelowZero r list in
    lengths_answered q false list p.plain answer (subst N same known.numerals) (rule q.kind.signed p.is_below neither (λ b. known.below.1 (subst B (sym same) b))) h.plain_kind (subst (L q.fractions) same (subst (λ (a : Fractions). L a p.radix) fractions known.plain)) a
  where
    rule : (asked below : Bool) → (asked || below) ≡ false → (HasBelowZero q.radix list → IsTrue below) → IsSignRule q.radix asked list false
    rule true below e found = let no : true ≡ false = e in cc
    rule false below e found = (refl, λ b. let no : false ≡ true = sym e ∙ found b in cc)

pub fault_is_answer : (q : Question) (input : List ℕ) (p : Progress) (fault : LeastFault) (answer : AnswerText) → HasProgress q.kind.width (lines input) p → p.radix ≡ q.radix → p.fault ≡ Some fault → answer.text ≡ fault_line fault → answer.fault ≡ true → IsFaultAnswer q.radix input answer
fault_is_answer q input p fault answer h same is text flag =
    let P : Option LeastFault → Type 0 = λ f. IsKnown q.kind.width (lines input) p f in
    let N : Radix → Type 0 = λ r. IsNoNumeral r (lines input) fault in
    record { why = fault; is_none = subst N same (subst P is h.known); text = text; fault = flag }

-- what is kept if all lines are numerals
pub plain_known : (q : Question) (list : List (List ℕ)) (reader : Reader) → HasLines q.radix (unbounded q.kind.width q.fractions) list reader → reader.progress.fault ≡ None
    → (count : ℕ) × (l : List (List ℕ)) × HasGreatestErrors q.radix count (entries_from 1 l) reader.errors × AreLengths q.fractions q.radix l reader.progress.plain × (reader.progress.plain.count ≤ count)
plain_known q list reader h none =
    let known : AreFitted q.kind.width list reader.progress = fitted q list reader.progress h.progress h.radix none in
    let p = reader.progress in
    (max p.plain.count p.signed.count, list, h.errors none, subst (λ (r : Radix). AreLengths q.fractions r list p.plain) h.radix (subst (λ (a : Fractions). AreLengths a p.radix list p.plain) h.fractions known.plain), omega arith)

pub signed_known : (q : Question) (list : List (List ℕ)) (reader : Reader) → HasLines q.radix (unbounded q.kind.width q.fractions) list reader → reader.progress.fault ≡ None
    → (count : ℕ) × (l : List (List ℕ)) × HasGreatestErrors q.radix count (entries_from 1 l) reader.errors × AreLengths q.fractions q.radix l reader.progress.signed × (reader.progress.signed.count ≤ count)
signed_known q list reader h none =
    let known : AreFitted q.kind.width list reader.progress = fitted q list reader.progress h.progress h.radix none in
    let p = reader.progress in
    (max p.plain.count p.signed.count, list, h.errors none, subst (λ (r : Radix). AreLengths q.fractions r list p.signed) h.radix (subst (λ (a : Fractions). AreLengths a p.radix list p.signed) h.fractions known.signed), omega arith)
