-- Ranges of columns in operands.
use Rattle.std.proofs.Common.{◌≡◌, ◌≢◌, ℕ, ◌+◌, ◌^◌, ◌<◌, List, [], ◌∷◌, ◌++◌, length, get_or, sym, ap, subst, arith, suc, drop, take, refl, ◌∙◌, inl, inr, false, length-append}
use Rattle.std.proofs.Common.{ne_eqb, eq-eqb, eqb-true}
use Rattle.std.proofs.Math.ListN.{get_or-append}
use Rattle.std.specs.Prelude.{MatchOption, None, Option, Some, ◌==◌}
use Rattle.std.specs.Fmt.{decimal}
use Rattle.std.specs.Int.{IsInRange}
use Rattle.std.specs.List.{after_first, before_first, position_or_len}
use Rattle.std.specs.Str.Parse.{AllDigits}
use Rattle.std.proofs.lemmas.Fmt.{decimal_injective, decimal_is_IsNumeral}
use Rattle.std.proofs.lemmas.List.Sums.{passes_at_first, position_or_len_is, split_at_first}
use Rattle.std.proofs.lemmas.Str.Parse.{digit_at}
use Rattle.column_engine.specs.declared.columns.Range.{Range}
use Rattle.fixed.specs.Columns.{IsOneWord, IsRangeWord, IsSpan}

-- a byte that is not a digit
abbrev pub IsNoDigit : ℕ → Type 0
IsNoDigit m = (d : ℕ) → IsInRange 48 57 d → d ≢ m

pub hyphen : IsNoDigit 45
hyphen d at e = omega (arith, at, e)

no_digit : (m : ℕ) → IsNoDigit m → (ds : List ℕ) (k : ℕ) → AllDigits 10 ds → k < length ds → (get_or ds k 0 == m) ≡ false
no_digit m never ds k d low = ne_eqb (get_or ds k 0) m (never (get_or ds k 0) (digit_at ds k d low))

-- digits contain no hyphen
no_hyphen : (ds : List ℕ) → AllDigits 10 ds → position_or_len (λ b. b == 45) ds ≡ length ds
no_hyphen ds d = position_or_len_is (λ b. b == 45) ds (length ds) 0 (omega arith) (λ k l. no_digit 45 hyphen ds k d l) (λ l. absurd (omega arith))

at_end : (m : ℕ) (ds es : List ℕ) → get_or (ds ++ m ∷ es) (length ds) 0 ≡ m
at_end m [] es = refl
at_end m (c ∷ cs) es = at_end m cs es

take_front : (ds es : List ℕ) → take (length ds) (ds ++ es) ≡ ds
take_front [] es = refl
take_front (c ∷ cs) es = ap (λ (l : List ℕ). c ∷ l) (take_front cs es)

drop_front : (m : ℕ) (ds es : List ℕ) → drop (suc (length ds)) (ds ++ m ∷ es) ≡ es
drop_front m [] es = refl
drop_front m (c ∷ cs) es = drop_front m cs es

-- in a text of digits and then this byte, the byte is the first of its kind
first_mark : (m : ℕ) → IsNoDigit m → (ds es : List ℕ) → AllDigits 10 ds → position_or_len (λ b. b == m) (ds ++ m ∷ es) ≡ length ds
first_mark m never ds es d = position_or_len_is (λ b. b == m) (ds ++ m ∷ es) (length ds) 0
    (omega (arith, length-append ds (m ∷ es)))
    (λ k l. ap (λ (b : ℕ). b == m) (get_or-append ds (m ∷ es) 0 k l) ∙ no_digit m never ds k d l)
    (λ l. ap (λ (b : ℕ). b == m) (at_end m ds es) ∙ eq-eqb m m refl)

first_hyphen : (ds es : List ℕ) → AllDigits 10 ds → position_or_len (λ b. b == 45) (ds ++ 45 ∷ es) ≡ length ds
first_hyphen = first_mark 45 hyphen

pub before_mark : (m : ℕ) → IsNoDigit m → (ds es : List ℕ) → AllDigits 10 ds → before_first (λ b. b == m) (ds ++ m ∷ es) ≡ ds
before_mark m never ds es d = ap (λ (n : ℕ). take n (ds ++ m ∷ es)) (first_mark m never ds es d) ∙ take_front ds (m ∷ es)

pub after_mark : (m : ℕ) → IsNoDigit m → (ds es : List ℕ) → AllDigits 10 ds → after_first (λ b. b == m) (ds ++ m ∷ es) ≡ es
after_mark m never ds es d =
    let one : position_or_len (λ b. b == m) (ds ++ m ∷ es) + 1 ≡ suc (length ds) = omega (arith, first_mark m never ds es d) in
    ap (λ (n : ℕ). drop n (ds ++ m ∷ es)) one ∙ drop_front m ds es

before_is : (ds es : List ℕ) → AllDigits 10 ds → before_first (λ b. b == 45) (ds ++ 45 ∷ es) ≡ ds
before_is = before_mark 45 hyphen

after_is : (ds es : List ℕ) → AllDigits 10 ds → after_first (λ b. b == 45) (ds ++ 45 ∷ es) ≡ es
after_is = after_mark 45 hyphen

pub digits_of_decimal : (n : ℕ) → n < 2 ^ 64 → AllDigits 10 (decimal n)
digits_of_decimal n h = (decimal_is_IsNumeral n h).0.1

digits_of_word : (word : List ℕ) (n : ℕ) → n < 2 ^ 64 → word ≡ decimal n → AllDigits 10 word
digits_of_word word n h e = subst (AllDigits 10) (sym e) (digits_of_decimal n h)

rejoined : (word : List ℕ) → position_or_len (λ b. b == 45) word < length word
    → word ≡ before_first (λ b. b == 45) word ++ 45 ∷ after_first (λ b. b == 45) word
rejoined word low =
    let at : get_or word (position_or_len (λ b. b == 45) word) 0 ≡ 45 = eqb-true _ 45 (passes_at_first (λ b. b == 45) word 0 low) in
    split_at_first (λ b. b == 45) word 0 low
    ∙ ap (λ (b : ℕ). before_first (λ b. b == 45) word ++ b ∷ after_first (λ b. b == 45) word) at

-- `a` and `b` are the parts of the operand before and after its first hyphen
abbrev pub IsCut : List ℕ → List ℕ → List ℕ → Type 0
IsCut word a b = (a ≡ before_first (λ b. b == 45) word) × (b ≡ after_first (λ b. b == 45) word)
    × (position_or_len (λ b. b == 45) word < length word)

-- an operand with a hyphen is a range if and only if its two parts are the ends of one
pub cut_is : (word a b : List ℕ) (r : Option Range) → IsCut word a b
    → MatchOption r ((x : Range) → ¬ IsSpan a b x) (λ x. IsSpan a b x)
    → MatchOption r ((x : Range) → ¬ IsRangeWord word x) (λ x. IsRangeWord word x)
cut_is word a b (Some x) cut h = inr (
  a,
  b,
  rejoined word cut.2 ∙ sym (ap (λ (l : List ℕ). l ++ 45 ∷ b) cut.0
      ∙ ap (λ (l : List ℕ). before_first (λ b. b == 45) word ++ 45 ∷ l) cut.1),
  h,
)
cut_is word a b None cut h = none
  where
    none : (x : Range) → ¬ IsRangeWord word x
    none x (inl one) = omega (arith, cut.2, no_hyphen word (digits_of_word word (x.to + 1) one.fits one.text))
    none x (inr (first, last, is, span)) =
        let d : AllDigits 10 first = digits_of_word first (x.from + 1) (omega (arith, span.ordered, span.fits)) span.first_is in
        let ea : a ≡ first = cut.0 ∙ ap (before_first (λ b. b == 45)) is ∙ before_is first last d in
        let eb : b ≡ last = cut.1 ∙ ap (after_first (λ b. b == 45)) is ∙ after_is first last d in
        h x (record { ordered = span.ordered; fits = span.fits; first_is = ea ∙ span.first_is; last_is = eb ∙ span.last_is })

-- an operand without a hyphen is a range if and only if it is the number of a column
pub whole_is : (word : List ℕ) (r : Option Range) → position_or_len (λ b. b == 45) word ≡ length word
    → MatchOption r ((x : Range) → ¬ IsOneWord word x) (λ x. IsOneWord word x)
    → MatchOption r ((x : Range) → ¬ IsRangeWord word x) (λ x. IsRangeWord word x)
whole_is word (Some x) lacks h = inl h
whole_is word None lacks h = none
  where
    none : (x : Range) → ¬ IsRangeWord word x
    none x (inl one) = h x one
    none x (inr (first, last, is, span)) =
        let d : AllDigits 10 first = digits_of_word first (x.from + 1) (omega (arith, span.ordered, span.fits)) span.first_is in
        let at : position_or_len (λ b. b == 45) word ≡ length first = ap (position_or_len (λ b. b == 45)) is ∙ first_hyphen first last d in
        omega (arith, at, lacks, ap length is, length-append first (45 ∷ last))

-- an operand that is one number is not two numbers around a hyphen
never_both : (word : List ℕ) (a b : Range) → IsOneWord word a
    → ((first : List ℕ) × (last : List ℕ) × (word ≡ first ++ 45 ∷ last) × IsSpan first last b) → ⊥
never_both word a b one (first, last, is, span) =
    let d : AllDigits 10 first = digits_of_word first (b.from + 1) (omega (arith, span.ordered, span.fits)) span.first_is in
    let at : position_or_len (λ b. b == 45) word ≡ length first = ap (position_or_len (λ b. b == 45)) is ∙ first_hyphen first last d in
    omega (arith, at, no_hyphen word (digits_of_word word (a.to + 1) one.fits one.text), ap length is, length-append first (45 ∷ last))

made : (a b : Range) → a.from ≡ b.from → a.to ≡ b.to → a ≡ b
made a b x y =
    let range : ℕ → ℕ → Range = λ from to. record { from = from; to = to } in
    ap (λ from. range from a.to) x ∙ ap (λ to. range b.from to) y

pub one_word_one : (word : List ℕ) (a b : Range) → IsOneWord word a → IsOneWord word b → a ≡ b
one_word_one word a b x y =
    let to : a.to ≡ b.to = omega (arith, decimal_injective (a.to + 1) (b.to + 1) x.fits y.fits (sym x.text ∙ y.text)) in
    made a b (x.one ∙ (to ∙ sym y.one)) to

-- an operand means at most one range
pub range_one : (word : List ℕ) (a b : Range) → IsRangeWord word a → IsRangeWord word b → a ≡ b
range_one word a b (inl x) (inl y) = one_word_one word a b x y
range_one word a b (inl x) (inr y) = absurd (never_both word a b x y)
range_one word a b (inr x) (inl y) = absurd (never_both word b a y x)
range_one word a b (inr (first, last, is, span)) (inr (first', last', is', span')) =
    let d : AllDigits 10 first = digits_of_word first (a.from + 1) (omega (arith, span.ordered, span.fits)) span.first_is in
    let d' : AllDigits 10 first' = digits_of_word first' (b.from + 1) (omega (arith, span'.ordered, span'.fits)) span'.first_is in
    let same : first ++ 45 ∷ last ≡ first' ++ 45 ∷ last' = sym is ∙ is' in
    let ef : first ≡ first' = sym (before_is first last d) ∙ (ap (before_first (λ b. b == 45)) same ∙ before_is first' last' d') in
    let el : last ≡ last' = sym (after_is first last d) ∙ (ap (after_first (λ b. b == 45)) same ∙ after_is first' last' d') in
    let from = decimal_injective (a.from + 1) (b.from + 1) (omega (arith, span.ordered, span.fits)) (omega (arith, span'.ordered, span'.fits))
    (sym span.first_is ∙ (ef ∙ span'.first_is)) in
    let to = decimal_injective (a.to + 1) (b.to + 1) span.fits span'.fits (sym span.last_is ∙ (el ∙ span'.last_is)) in
    made a b (omega (arith, from)) (omega (arith, to))
