-- A list has one outcome.
use Rattle.std.proofs.Common.{◌≡◌, ℕ, ◌+◌, ◌<◌, ◌≤◌, Bool, List, [], ◌∷◌, ◌++◌, length, get_or, zero, suc, refl, sym}
use Rattle.std.proofs.Common.{ap, ◌∙◌, subst, arith, inl, inr, ⊎_elim}
use Rattle.std.specs.Prelude.{codes, decimal}
use Rattle.std.proofs.lemmas.Bool.{cases_lt}
use Rattle.fixed_bits.specs.Formats.{FormatParts}
use Rattle.fixed_numeral.specs.Cause.{HasCause}
use Rattle.fixed_numeral.specs.Numeral.{Parts, IsNumeral}
use Rattle.fixed_numeral.specs.declared.error.ParseErrorKind.{ParseErrorKind}
use Rattle.fixed_numeral.proofs.Public.{one_cause, parts_unique}
use Rattle.fixed_numeral.specs.declared.radix.Radix.{Radix}
use Rattle.line_engine.specs.Lines.{lines}
use Rattle.line_engine.specs.Output.{written_of}
use Rattle.line_engine.specs.AnswerText.{AnswerText}
use Rattle.fixed_respell.specs.Words.{format_text}
use Rattle.fixed_least.specs.Holding.{AllHold, AllNumerals, Holds, HoldsLine, IsFirstRefused, IsLeastFormat}
use Rattle.fixed_least.specs.Holding.{RefusesLine}
use Rattle.fixed_bits.proofs.Public.{rank_below, rank_has_format, rank_order, rank_unique}
use Rattle.fixed_least.specs.Laws.{AnswerIsTheOne, LeastFaultIsTheOne, LeastIsTheOne, LongerHasNoLesser}
use Rattle.fixed_least.specs.Laws.{PlacesAreTheOnes}
use Rattle.fixed_least.specs.Least.{AreLines, IsFaultAnswer, IsHeadText, IsLeast, IsLeastAnswer, IsLeastLine}
use Rattle.fixed_least.specs.Least.{IsLeastText, IsNoNumeral, IsRefutedText, fault_line, kind_at, place_of}
use Rattle.fixed_bits.specs.Order.{rank}
use Rattle.fixed_least.specs.declared.least.LeastFault.{LeastFault}
use Rattle.fixed_least.specs.declared.least.LeastFault.TheVariants.{NotNumeral}

-- a format that does not hold a line does not hold all lines
line_of : (r : Radix) (f : FormatParts) (before : List (List ℕ)) (line : List ℕ) (after : List (List ℕ))
    → AllHold r f (before ++ line ∷ after) → HoldsLine r f line
line_of r f [] line after all = all.0
line_of r f (first ∷ before) line after all = line_of r f before line after all.1

not_held_and_refused : (r : Radix) (f : FormatParts) (line : List ℕ) → HoldsLine r f line → RefusesLine r f line → ⊥
not_held_and_refused r f line h n =
    let same : h.parts ≡ n.parts = parts_unique r line h.parts n.parts h.numeral.beginning n.numeral.beginning in
    let P : Parts → Type 0 = λ p. Holds r p f in
    n.refuses (subst P same h.holds)

refused_not : (r : Radix) (f : FormatParts) (lines : List (List ℕ)) (place : ℕ) → IsFirstRefused r f lines place
    → AllHold r f lines → ⊥
refused_not r f lines place h all =
    let P : List (List ℕ) → Type 0 = λ l. AllHold r f l in
    not_held_and_refused r f h.line (line_of r f h.before h.line h.after (subst P h.split all)) h.refused

pub least_one : LeastIsTheOne
least_one r lines places least f is = (to, back)
  where
    to : rank f ≡ length places → IsLeastFormat r lines f
    to e = record {
      is_format = is;
      holds = least.holds f is e;
      least = λ g is_g before all.
          let lower : rank g < rank f = (rank_order g f is_g is).0 before in
          refused_not r g lines (get_or places (rank g) 0) (least.refutes g is_g (omega (arith, lower, e))) all;
    }

    back : IsLeastFormat r lines f → rank f ≡ length places
    back h =
        ⊎_elim
        (λ (less : rank f < length places). absurd (refused_not r f lines (get_or places (rank f) 0)
        (least.refutes f is less) h.holds))
        (λ (more : length places ≤ rank f). ⊎_elim
        (λ (past : length places < rank f).
        let g = rank_has_format (length places) (omega (arith, past, least.short, rank_below f is)) in
        let lower : rank g.0 < rank f = omega (arith, past, g.2) in
        absurd (h.least g.0 g.1 ((rank_order g.0 f g.1 is).1 lower) (least.holds g.0 g.1 g.2)))
        (λ (not_past : rank f ≤ length places). omega (arith, more, not_past))
        (cases_lt (length places) (rank f)))
        (cases_lt (rank f) (length places))

-- ---- an input has one answer
-- a list has only one split at its first bad line
record IsSameSplit (before before' : List (List ℕ)) (line line' : List ℕ) : Type 0 where
  before_is : before ≡ before'
  line_is : line ≡ line'

same_split : (Good Bad : List ℕ → Type 0) → ((line : List ℕ) → Good line → Bad line → ⊥)
    → (All : List (List ℕ) → Type 0) → ((l : List ℕ) (ls : List (List ℕ)) → All (l ∷ ls) → Good l × All ls)
    → (before before' : List (List ℕ)) (line line' : List ℕ) (after after' : List (List ℕ))
    → before ++ line ∷ after ≡ before' ++ line' ∷ after' → All before → All before' → Bad line → Bad line'
    → IsSameSplit before before' line line'
same_split G B never All cons [] [] line line' after after' e x y b b' = record { before_is = refl; line_is = cc }
same_split G B never All cons [] (l ∷ ls) line line' after after' e x y b b' = let same : line ≡ l = cc
    in absurd (never l (cons l ls y).0 (subst B same b))
same_split G B never All cons (l ∷ ls) [] line line' after after' e x y b b' = let same : line' ≡ l = cc
    in absurd (never l (cons l ls x).0 (subst B same b'))
same_split G B never All cons (l ∷ ls) (k ∷ ks) line line' after after' e x y b b' =
    let head : l ≡ k = cc in
    let tail : ls ++ line ∷ after ≡ ks ++ line' ∷ after' = cc in
    let rest = same_split G B never All cons ls ks line line' after after' tail (cons l ls x).1 (cons k ks y).1 b b' in
    let before : ls ≡ ks = rest.before_is in
    record { before_is = cc; line_is = rest.line_is }

place_one : (r : Radix) (f : FormatParts) (lines : List (List ℕ)) (m n : ℕ) → IsFirstRefused r f lines m
    → IsFirstRefused r f lines n → m ≡ n
place_one r f lines m n a b =
    let same = same_split (HoldsLine r f) (RefusesLine r f) (not_held_and_refused r f) (AllHold r f)
    (λ l ls all. (all.0, all.1)) a.before b.before a.line b.line a.after b.after
    (sym a.split ∙ b.split) a.held b.held a.refused b.refused in
    a.place_is ∙ (ap (λ l. length l + 1) same.before_is ∙ sym b.place_is)

places_alike : (xs ys : List ℕ) → length xs ≡ length ys → ((k : ℕ) → k < length xs → get_or xs k 0 ≡ get_or ys k 0)
    → xs ≡ ys
places_alike [] [] e h = refl
places_alike [] (y ∷ ys) e h = absurd (omega (arith, e))
places_alike (x ∷ xs) [] e h = absurd (omega (arith, e))
places_alike (x ∷ xs) (y ∷ ys) e h =
    let head : x ≡ y = h 0 (omega arith) in
    let tail : xs ≡ ys = places_alike xs ys (omega (arith, e)) (λ k low. h (suc k) (omega (arith, low))) in
    cc

shorter_not : (r : Radix) (lines : List (List ℕ)) (a b : List ℕ) → IsLeast r lines a → IsLeast r lines b
    → length a < length b → ⊥
shorter_not r lines a b x y less =
    let g = rank_has_format (length a) (omega (arith, less, y.short)) in
    refused_not r g.0 lines (get_or b (rank g.0) 0) (y.refutes g.0 g.1 (omega (arith, g.2, less))) (x.holds g.0 g.1 g.2)

pub places_one : PlacesAreTheOnes
places_one r lines a b x y =
    let level : length a ≡ length b =
    ⊎_elim
    (λ (less : length a < length b). absurd (shorter_not r lines a b x y less))
    (λ (more : length b ≤ length a). ⊎_elim
    (λ (past : length b < length a). absurd (shorter_not r lines b a y x past))
    (λ (not_past : length a ≤ length b). omega (arith, more, not_past))
    (cases_lt (length b) (length a)))
    (cases_lt (length a) (length b)) in
    places_alike a b level (λ k low.
    let g = rank_has_format k (omega (arith, low, x.short)) in
    let A : ℕ → Type 0 = λ n. IsFirstRefused r g.0 lines (get_or a n 0) in
    let B : ℕ → Type 0 = λ n. IsFirstRefused r g.0 lines (get_or b n 0) in
    place_one r g.0 lines (get_or a k 0) (get_or b k 0) (subst A g.2 (x.refutes g.0 g.1 (omega (arith, g.2, low))))
    (subst B g.2 (y.refutes g.0 g.1 (omega (arith, g.2, low, level)))))

-- ---- the text about it
answer_text_is : (a b : AnswerText) → a.text ≡ b.text → a.fault ≡ b.fault → a ≡ b
answer_text_is a b t f =
    let R : List ℕ → Bool → AnswerText = λ x y. record { text = x; fault = y } in
    ap (λ x. R x a.fault) t ∙ ap (λ y. R b.text y) f

head_one : (places s t : List ℕ) → IsHeadText places s → IsHeadText places t → s ≡ t
head_one places s t (inl a) (inl b) = a.1 ∙ sym b.1
head_one places s t (inl a) (inr b) = absurd (omega (arith, a.0, b.2, rank_below b.0 b.1))
head_one places s t (inr a) (inl b) = absurd (omega (arith, b.0, a.2, rank_below a.0 a.1))
head_one places s t (inr a) (inr b) = a.3 ∙ (ap (λ f. codes "least " ++ format_text f)
    (rank_unique a.0 b.0 a.1 b.1 (a.2 ∙ sym b.2)) ∙ sym b.3)

refuted_one : (places s t : List ℕ) (k : ℕ) → IsRefutedText places k s → IsRefutedText places k t → s ≡ t
refuted_one places s t k a b = a.3 ∙ (ap (λ f. format_text f ++ (codes " line " ++ decimal (get_or places k 0)))
    (rank_unique a.0 b.0 a.1 b.1 (a.2 ∙ sym b.2)) ∙ sym b.3)

pub line_one : (places : List ℕ) (i : ℕ) (a b : AnswerText) → IsLeastLine places i a → IsLeastLine places i b → a ≡ b
line_one places zero a b x y = answer_text_is a b (head_one places a.text b.text (x.head refl) (y.head refl))
    (x.fault ∙ sym y.fault)
line_one places (suc k) a b x y =
    let e : suc k ≡ k + 1 = omega arith in
    answer_text_is a b (refuted_one places a.text b.text k (x.refuted k e) (y.refuted k e)) (x.fault ∙ sym y.fault)

lines_alike : (places : List ℕ) (k : ℕ) (xs ys : List AnswerText) → AreLines places k xs → AreLines places k ys
    → length xs ≡ length ys → xs ≡ ys
lines_alike places k [] [] x y e = refl
lines_alike places k [] (b ∷ ys) x y e = absurd (omega (arith, e))
lines_alike places k (a ∷ xs) [] x y e = absurd (omega (arith, e))
lines_alike places k (a ∷ xs) (b ∷ ys) x y e =
    let head : a ≡ b = line_one places k a b x.0 y.0 in
    let tail : xs ≡ ys = lines_alike places (k + 1) xs ys x.1 y.1 (omega (arith, e)) in
    cc

text_one : (places s t : List ℕ) → IsLeastText places s → IsLeastText places t → s ≡ t
text_one places s t x y = x.text_is ∙ (ap written_of (lines_alike places 0 x.answers y.answers x.are_lines y.are_lines
    (x.count ∙ sym y.count)) ∙ sym y.text_is)

numeral_of : (r : Radix) (before : List (List ℕ)) (line : List ℕ) (after : List (List ℕ))
    → AllNumerals r (before ++ line ∷ after) → IsNumeral r line
numeral_of r [] line after all = all.0
numeral_of r (first ∷ before) line after all = numeral_of r before line after all.1

abbrev IsRefused : Radix → List ℕ → Type 0
IsRefused r line = (kind : ParseErrorKind) × HasCause r line kind

-- a list has one first line that is not a numeral, with one cause
fault_parts_one : (r : Radix) (lines : List (List ℕ)) (a b : LeastFault) → IsNoNumeral r lines a
    → IsNoNumeral r lines b → (place_of a ≡ place_of b) × (kind_at a ≡ kind_at b)
fault_parts_one r lines a b x y =
    let same = same_split (IsNumeral r) (IsRefused r) (λ line h n. n.1.none h) (AllNumerals r)
    (λ l ls all. (all.0, all.1)) x.before y.before x.line y.line x.after y.after
    (sym x.split ∙ y.split) x.numerals y.numerals (kind_at a, x.cause) (kind_at b, y.cause) in
    let C : List ℕ → Type 0 = λ l. HasCause r l (kind_at a) in
    let kind : kind_at a ≡ kind_at b = one_cause r y.line (kind_at a) (kind_at b)
    (subst C same.line_is x.cause) y.cause in
    (x.place_is ∙ (ap (λ l. length l + 1) same.before_is ∙ sym y.place_is), kind)

fault_by_parts : (p q : ℕ) (k l : ParseErrorKind) → p ≡ q → k ≡ l → NotNumeral p k ≡ NotNumeral q l
fault_by_parts p q k l same kind = ap (λ x. NotNumeral x k) same ∙ ap (λ x. NotNumeral q x) kind

fault_by : (a b : LeastFault) → place_of a ≡ place_of b → kind_at a ≡ kind_at b → a ≡ b
fault_by (NotNumeral p k) (NotNumeral q l) same kind = fault_by_parts p q k l same kind

pub fault_one : LeastFaultIsTheOne
fault_one r lines a b x y = let same = fault_parts_one r lines a b x y in fault_by a b same.0 same.1

faults_one : (r : Radix) (lines : List (List ℕ)) (a b : LeastFault) → IsNoNumeral r lines a → IsNoNumeral r lines b
    → fault_line a ≡ fault_line b
faults_one r lines a b x y = ap fault_line (fault_one r lines a b x y)

both_not : (r : Radix) (input : List ℕ) (a b : AnswerText) → IsLeastAnswer r input a → IsFaultAnswer r input b → ⊥
both_not r input a b x y =
    let P : List (List ℕ) → Type 0 = λ l. AllNumerals r l in
    y.is_none.cause.none (numeral_of r y.is_none.before y.is_none.line y.is_none.after
    (subst P y.is_none.split x.least.numerals))

pub answer_one : AnswerIsTheOne
answer_one r input a b (inl x) (inl y) =
    let same : x.places ≡ y.places = places_one r (lines input) x.places y.places x.least y.least in
    let T : List ℕ → Type 0 = λ p. IsLeastText p a.text in
    answer_text_is a b (text_one y.places a.text b.text (subst T same x.text) y.text) (x.fault ∙ sym y.fault)
answer_one r input a b (inl x) (inr y) = absurd (both_not r input a b x y)
answer_one r input a b (inr x) (inl y) = absurd (both_not r input b a y x)
answer_one r input a b (inr x) (inr y) = answer_text_is a b (x.text ∙
    (faults_one r (lines input) x.why y.why x.is_none y.is_none ∙ sym y.text)) (x.fault ∙ sym y.fault)

-- ---- a longer list
held_prefix : (r : Radix) (f : FormatParts) (lines more : List (List ℕ)) → AllHold r f (lines ++ more)
    → AllHold r f lines
held_prefix r f [] more all = tt
held_prefix r f (line ∷ lines) more all = (all.0, held_prefix r f lines more all.1)

pub no_lesser : LongerHasNoLesser
no_lesser r lines more = (
  λ f g x y before. x.least g y.is_format before (held_prefix r g lines more y.holds),
  λ f none all. none (held_prefix r f lines more all),
)
