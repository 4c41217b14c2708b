-- The written text is the answer to the list within a bound, by the formats that serve.
use Rattle.std.proofs.Common.{◌≡◌, nat_lt, ℕ, ◌<◌, ◌≤◌, ◌⊎◌, ◌||◌, Bool, true, false, IsTrue, max, List, [], ◌∷◌, ◌++◌, None, refl, sym, ap, append_assoc, ◌∙◌, subst, arith, inl, inr, ⊎_elim}
use Rattle.std.specs.Prelude.{codes}
use Rattle.std.proofs.lemmas.Bool.{cases_lt, le-ltb, lt-ltb}
use Rattle.fixed_bits.specs.Formats.{FormatParts}
use Rattle.fixed_error.specs.Errors.{HasGreatestErrors}
use Rattle.fixed_least.specs.Holding.{AllNumerals}
use Rattle.fixed_numeral.specs.declared.radix.Radix.{Radix}
use Rattle.line_engine.specs.AnswerText.{AnswerText}
use Rattle.fixed_fit.specs.Answer.{name_of, none_line}
use Rattle.fixed_fit.specs.Bounded.{IsBoundedFound, IsBoundedNone, IsWidthReason, at_width, width_line}
use Rattle.fixed_fit.specs.ErrorWord.{entries_from}
use Rattle.fixed_fit.specs.Fitting.{AllFit, Choice, HasBelowZero, IsFirstExceeding, IsSignRule, choice}
use Rattle.fixed_fit.specs.Inner.Lengths.{AreLengths, reason_of}
use Rattle.fixed_fit.specs.Inner.Progress.{AreFitted}
use Rattle.fixed_fit.specs.Inner.Reading.{HasLines}
use Rattle.fixed_fit.specs.Inner.Serving.{AreAllLeft, Asked, HasServing, HasWidth, IsBelow, IsLeftOf, IsServingAnswer, bounded, lesser_of, most_left}
use Rattle.fixed_fit.specs.Within.{IsLeastWithin, IsNextBelow, IsTried, IsUnservedFrom, most_width}
use Rattle.fixed_fit.specs.declared.lengths.Lengths.{Lengths}
use Rattle.fixed_fit.specs.declared.question.Fractions.{Fractions}
use Rattle.fixed_fit.specs.declared.question.Question.{Question}
use Rattle.fixed_fit.specs.declared.question.Widths.{Widths}
use Rattle.fixed_fit.specs.declared.question.Widths.TheVariants.{One}
use Rattle.fixed_fit.specs.declared.reader.Reader.{Reader}
use Rattle.fixed_fit.specs.declared.serving.Serving.{Serving}
use Rattle.fixed_fit.proofs.AnswerLemmas.{reason_by}
use Rattle.fixed_fit.proofs.FittingLemmas.{exceeding_not}
use Rattle.fixed_fit.proofs.LineLemmas.{fitted}
use Rattle.fixed_fit.proofs.ServingLemmas.{least_by, left_in, tried_most}
use Rattle.fixed_fit.proofs.WithinLemmas.{all_fit_wider, least_within_is_the_one, more_lengths}

-- ---- a narrower width has no more lengths left
no_more : (r : Radix) (c : Choice) (w : ℕ) (list : List (List ℕ)) (l p : Lengths) → IsLeftOf r c list l → l.kind.width ≤ w → p.kind ≡ record { signed = c.signed; width = w; frac = 0 } → AreLengths c.fractions r list p → l.count ≤ p.count
no_more r c w list l p h narrow kind known =
    ⊎_elim
    (λ (less : p.count < l.count). absurd (
    let s : Bool = c.signed in
    let fit : AllFit r l.kind.signed l.kind.width p.count list = h.lengths.fit p.count less in
    let wide : AllFit r s w p.count list = all_fit_wider r s l.kind.width w p.count list narrow (subst (λ t. AllFit r t l.kind.width p.count list) h.signed fit) in
    let here : AreLengths c.fractions r list (record { kind = record { signed = s; width = w; frac = 0 }; count = p.count; place = p.place }) = subst (λ (k : FormatParts). AreLengths c.fractions r list (record { kind = k; count = p.count; place = p.place })) kind known in
    let most = h.lengths.most in
    let more = more_lengths c.fractions l.kind.width w narrow in
    exceeding_not r s w p.count list p.place (here.first (omega (arith, less, most, more))) wide))
    (λ (within : l.count ≤ p.count). within)
    (cases_lt p.count l.count)

pub most_within : (r : Radix) (c : Choice) (w : ℕ) (list : List (List ℕ)) (ls : List Lengths) (p : Lengths) → AreAllLeft r c list ls → ((n : ℕ) → HasWidth n ls → n ≤ w) → p.kind ≡ record { signed = c.signed; width = w; frac = 0 } → AreLengths c.fractions r list p → most_left ls ≤ p.count
most_within r c w list [] p all narrow kind known = omega arith
most_within r c w list (l ∷ ls) p all narrow kind known =
    let here : l.count ≤ p.count = no_more r c w list l p all.0 (narrow l.kind.width (inl refl)) kind known in
    let later : most_left ls ≤ p.count = most_within r c w list ls p all.1 (λ n h. narrow n (inr h)) kind known in
    omega (arith, here, later)

-- ---- the answer if a format serves, and the answer if none does
joined : (x b name error reason lesser : List ℕ) → x ≡ b ++ lesser → b ≡ name ++ (codes " error " ++ (error ++ 10 ∷ reason)) → x ≡ name ++ (codes " error " ++ (error ++ 10 ∷ (reason ++ lesser)))
joined x b name error reason lesser e f = rw (e, f) (simp append_assoc)

lesser_by : (q : Question) (widths : Widths) (bound : List ℕ) (s : Bool) (list : List (List ℕ)) (n below place : ℕ) → IsBelow widths q.kind.width n below → ((m : ℕ) → IsNextBelow widths q.kind.width n m → IsUnservedFrom q.is_range q.radix (choice s q.fractions) bound One m list place)
    → IsWidthReason q widths bound s list n (lesser_of q.is_reason_asked below place)
lesser_by q widths bound s list n below place is unserved = record {
  unasked = λ e. rw e refl;
  no_lesser = λ none. nothing q.is_reason_asked (le-ltb 0 below (no_next none));
  next = λ e m next.
      let same = the_next m next in
      let h : nat_lt 0 below ≡ true = lt-ltb 0 below same.0 in
      (place, unserved m next, rw (e, h) (ap (λ (k : ℕ). width_line k place) same.1));
}
  where
    nothing : (asked : Bool) → nat_lt 0 below ≡ false → lesser_of asked below place ≡ []
    nothing true h = rw h refl
    nothing false h = refl

    no_next : ((m : ℕ) → IsTried widths q.kind.width m → n ≤ m) → below ≤ 0
    no_next none = ⊎_elim
        (λ (more : 0 < below). let x = is.some more in let less = x.less in let order = none below x.tried in absurd (omega (arith, less, order)))
        (λ (past : below ≤ 0). past)
        (cases_lt 0 below)

    the_next : (m : ℕ) → IsNextBelow widths q.kind.width n m → (0 < below) × (below ≡ m)
    the_next m next = ⊎_elim
        (λ (more : 0 < below).
        let x = is.some more in
        let up : m ≤ below = x.greatest m next.tried next.less in
        let down : below ≤ m = next.greatest below x.tried x.less in
        (more, omega (arith, up, down)))
        (λ (past : below ≤ 0). let order = is.none (omega (arith, past)) m next.tried in let less = next.less in absurd (omega (arith, order, less)))
        (cases_lt 0 below)

found_by : (q : Question) (widths : Widths) (list : List (List ℕ)) (s : Bool) (v : Serving) (answer : AnswerText) → AllNumerals q.radix list → IsSignRule q.radix q.kind.signed list s → HasServing q.is_range q.radix (choice s q.fractions) widths q.kind.width list v → v.is_served ≡ true → IsServingAnswer q widths list v answer
    → IsBoundedFound q widths v.bound.items list answer
found_by q widths list s v answer numerals sign h none a =
    let best = a.best in
    let serving = h.serving none in
    let narrowed = h.narrowed none in
    let left : IsLeftOf q.radix (choice s q.fractions) list best = left_in q.radix (choice s q.fractions) list best v.lengths.items a.is_best.among serving.lengths in
    let n : ℕ = best.kind.width in
    let least = least_by q.is_range q.radix (choice s q.fractions) widths q.kind.width list v best a.frac a.last h.tried serving a.is_best in
    let width : v.width ≡ n = (least_within_is_the_one q.is_range q.radix (choice s q.fractions) v.bound.items widths q.kind.width list v.width n narrowed.frac a.frac narrowed.least least).0 in
    let reason : List ℕ = reason_of q.fractions q.is_reason_asked best.kind.signed n a.frac best.place in
    let lesser : List ℕ = lesser_of q.is_reason_asked a.below v.raised in
    let here : IsWidthReason q widths v.bound.items s list v.width lesser = lesser_by q widths v.bound.items s list v.width a.below v.raised a.is_below narrowed.below in
    record {
      numerals = numerals;
      signed = best.kind.signed;
      sign = subst (λ t. IsSignRule q.radix q.kind.signed list t) (sym left.signed) sign;
      width = n;
      frac = a.frac;
      least = subst (λ t. IsLeastWithin q.is_range q.radix (choice t q.fractions) v.bound.items widths q.kind.width list n a.frac) (sym left.signed) least;
      error = a.some.error;
      is_error = a.some.is_error;
      reason = reason;
      is_reason = reason_by (at_width q n) best.kind.signed list a.frac best.place (λ within. subst (λ c. IsFirstExceeding q.radix best.kind.signed n c list best.place) (sym a.last) (left.lengths.first (let last = a.last in omega (arith, within, last))));
      lesser = lesser;
      is_lesser = subst (λ t. IsWidthReason q widths v.bound.items t list n lesser) (sym left.signed) (subst (λ k. IsWidthReason q widths v.bound.items s list k lesser) width here);
      text = joined answer.text a.before.text (name_of best.kind.signed n a.frac) a.some.error reason lesser a.text a.some.text;
      fault = a.fault ∙ a.some.fault;
    }

answered_by : (q : Question) (widths : Widths) (list : List (List ℕ)) (s : Bool) (v : Serving) (answer : AnswerText) → AllNumerals q.radix list → IsSignRule q.radix q.kind.signed list s → HasServing q.is_range q.radix (choice s q.fractions) widths q.kind.width list v
    → (v.is_served ≡ false → answer.text ≡ none_line v.place) → (v.is_served ≡ false → answer.fault ≡ true) → (v.is_served ≡ true → IsServingAnswer q widths list v answer)
    → IsBoundedFound q widths v.bound.items list answer ⊎ IsBoundedNone q widths v.bound.items list answer
answered_by q widths list s v answer numerals sign h text fault some =
    by v.is_served refl
  where
    by : (on : Bool) → v.is_served ≡ on → IsBoundedFound q widths v.bound.items list answer ⊎ IsBoundedNone q widths v.bound.items list answer
    by true on = inl (found_by q widths list s v answer numerals sign h on (some on))
    by false over = inr (record {
      numerals = numerals;
      signed = s;
      sign = sign;
      place = v.place;
      first = h.unserved over;
      text = text over;
      fault = fault over;
    })

signed_rule : (r : Radix) (asked below : Bool) (list : List (List ℕ)) → (asked || below) ≡ true → (IsTrue below → HasBelowZero r list) → IsSignRule r asked list true
signed_rule r true below list e found = inl refl
signed_rule r false below list e found = inr (found e)

plain_rule : (r : Radix) (asked below : Bool) (list : List (List ℕ)) → (asked || below) ≡ false → (HasBelowZero r list → IsTrue below) → IsSignRule r asked list false
plain_rule r true below list e found = let no : true ≡ false = e in cc
plain_rule r false below list e found = (refl, λ b. let no : false ≡ true = sym e ∙ found b in cc)

abbrev pub asked_by : Question → List ℕ → Widths → Asked
asked_by q bound widths = bounded q.is_range (most_width widths q.kind.width) q.fractions bound widths q.kind.width

abbrev Answered : Question → Widths → List ℕ → List (List ℕ) → AnswerText → Type 0
Answered q widths bound list answer = IsBoundedFound q widths bound list answer ⊎ IsBoundedNone q widths bound list answer

pub signed_bounded : (q : Question) (widths : Widths) (bound : List ℕ) (list : List (List ℕ)) (reader : Reader) (answer : AnswerText) → HasLines q.radix (asked_by q bound widths) list reader → reader.progress.fault ≡ None → (q.kind.signed || reader.progress.is_below) ≡ true
    → (reader.within.signed.is_served ≡ false → answer.text ≡ none_line reader.within.signed.place) → (reader.within.signed.is_served ≡ false → answer.fault ≡ true) → (reader.within.signed.is_served ≡ true → IsServingAnswer q widths list reader.within.signed answer)
    → IsBoundedFound q widths bound list answer ⊎ IsBoundedNone q widths bound list answer
signed_bounded q widths bound list reader answer h none either text fault some =
    let p = reader.progress in
    let known : AreFitted (most_width widths q.kind.width) list p = fitted (most_width widths q.kind.width) list p h.progress none in
    let served = h.within refl none in
    let B : Radix → Type 0 = λ r. HasBelowZero r list in
    subst (λ (b : List ℕ). Answered q widths b list answer) served.signed_bound (answered_by q widths list true reader.within.signed answer
    (subst (λ (r : Radix). AllNumerals r list) h.radix known.numerals)
    (signed_rule q.radix q.kind.signed p.is_below list either (λ t. subst B h.radix (known.below.0 t)))
    served.signed text fault some)

pub plain_bounded : (q : Question) (widths : Widths) (bound : List ℕ) (list : List (List ℕ)) (reader : Reader) (answer : AnswerText) → HasLines q.radix (asked_by q bound widths) list reader → reader.progress.fault ≡ None → (q.kind.signed || reader.progress.is_below) ≡ false
    → (reader.within.plain.is_served ≡ false → answer.text ≡ none_line reader.within.plain.place) → (reader.within.plain.is_served ≡ false → answer.fault ≡ true) → (reader.within.plain.is_served ≡ true → IsServingAnswer q widths list reader.within.plain answer)
    → IsBoundedFound q widths bound list answer ⊎ IsBoundedNone q widths bound list answer
plain_bounded q widths bound list reader answer h none neither text fault some =
    let p = reader.progress in
    let known : AreFitted (most_width widths q.kind.width) list p = fitted (most_width widths q.kind.width) list p h.progress none in
    let served = h.within refl none in
    let B : Radix → Type 0 = λ r. HasBelowZero r list in
    subst (λ (b : List ℕ). Answered q widths b list answer) served.plain_bound (answered_by q widths list false reader.within.plain answer
    (subst (λ (r : Radix). AllNumerals r list) h.radix known.numerals)
    (plain_rule q.radix q.kind.signed p.is_below list neither (λ b. known.below.1 (subst B (sym h.radix) b)))
    served.plain text fault some)

-- ---- what writing the answer requires
abbrev pub IsServedKnown : Question → Reader → Serving → Type 0
IsServedKnown q reader v = (count : ℕ) × (list : List (List ℕ)) × (s : Bool) × HasGreatestErrors q.radix count (entries_from 1 list) reader.errors × AreAllLeft q.radix (choice s q.fractions) list v.lengths.items × (most_left v.lengths.items ≤ count)

pub signed_served : (q : Question) (widths : Widths) (bound : List ℕ) (list : List (List ℕ)) (reader : Reader) → HasLines q.radix (asked_by q bound widths) list reader → reader.progress.fault ≡ None → reader.within.signed.is_served ≡ true → IsServedKnown q reader reader.within.signed
signed_served q widths bound list reader h none at =
    let p = reader.progress in
    let w : ℕ = most_width widths q.kind.width in
    let known : AreFitted w list p = fitted w list p h.progress none in
    let served = (h.within refl none).signed in
    let most : most_left reader.within.signed.lengths.items ≤ p.signed.count = most_within q.radix (choice true q.fractions) w list reader.within.signed.lengths.items p.signed (served.serving at).lengths (λ n has. tried_most widths q.kind.width n (served.tried.only n has)) h.progress.signed_kind (subst (λ (r : Radix). AreLengths q.fractions r list p.signed) h.radix (subst (λ (a : Fractions). AreLengths a p.radix list p.signed) h.fractions known.signed)) in
    (max p.plain.count p.signed.count, list, true, h.errors none, (served.serving at).lengths, omega (arith, most))

pub plain_served : (q : Question) (widths : Widths) (bound : List ℕ) (list : List (List ℕ)) (reader : Reader) → HasLines q.radix (asked_by q bound widths) list reader → reader.progress.fault ≡ None → reader.within.plain.is_served ≡ true → IsServedKnown q reader reader.within.plain
plain_served q widths bound list reader h none at =
    let p = reader.progress in
    let w : ℕ = most_width widths q.kind.width in
    let known : AreFitted w list p = fitted w list p h.progress none in
    let served = (h.within refl none).plain in
    let most : most_left reader.within.plain.lengths.items ≤ p.plain.count = most_within q.radix (choice false q.fractions) w list reader.within.plain.lengths.items p.plain (served.serving at).lengths (λ n has. tried_most widths q.kind.width n (served.tried.only n has)) h.progress.plain_kind (subst (λ (r : Radix). AreLengths q.fractions r list p.plain) h.radix (subst (λ (a : Fractions). AreLengths a p.radix list p.plain) h.fractions known.plain)) in
    (max p.plain.count p.signed.count, list, false, h.errors none, (served.serving at).lengths, omega (arith, most))
