-- The names of formats: how counts are read, what follows the letters, and that a word names at most one format.
use Rattle.std.proofs.Common.{◌≡◌, ℕ, ◌+◌, ◌-◌, ◌<◌, ◌≤◌, ◌⊎◌, ◌↔◌, Bool, true, false, IsTrue, List, [], ◌∷◌, ◌++◌, length, length-append, Option, Some, None, IsSome, IfSome, MatchOption, refl, sym, ap, ◌∙◌, subst, arith, inl, inr, ⊎_elim, append_assoc}
use Rattle.std.specs.Fmt.{decimal, signed_decimal}
use Rattle.std.specs.Str.Parse.{AllDigits}
use Rattle.std.proofs.lemmas.Bool.{cases_lt}
use Rattle.std.proofs.lemmas.Fmt.{decimal_injective, decimal_is_IsNumeral}
use Rattle.std.proofs.lemmas.Str.Parse.{digit_from_value}
use Rattle.fixed_bits.specs.Formats.{FormatParts, IsFormat, whole_length}
use Rattle.fixed_bits.proofs.Public.{type_format}
use Rattle.fixed_numeral.specs.Numeral.{minus}
use Rattle.fixed_respell.specs.AnswerLaws.{FormatNameIsTheOne, FormatWordIsAName}
use Rattle.fixed_respell.specs.FormatNames.{IsCountedName, IsFormatName, IsFractionName, IsLetter, IsPointedName, IsQ, point, q_letter}
use Rattle.fixed_respell.specs.Inner.NameParts.{IsAfterQ, IsAfterU, IsCounted, IsCountedBeyond, IsCountedWithin, IsFraction, IsPointed, IsPointedByQ, two_counts}
use Rattle.fixed_respell.specs.Split.{IsSplit, count_of}
use Rattle.fixed_respell.specs.Words.{counts_text, format_text, fraction_letter, sign_letter}
use Rattle.fixed_respell.specs.Lemmas.FormatLemmas.{IsNoDigit, counts_beyond, counts_within, decimal_without, no_digit_is}
use Rattle.fixed_respell.specs.Lemmas.SplitLemmas.{IsSameSplit, split_has_one, split_is_one}

-- ---- two counts around a byte that is not a digit
abbrev IsSameCounts : ℕ → ℕ → List ℕ → List ℕ → List ℕ → List ℕ → Type 0
IsSameCounts m n xs ys r s = (xs ≡ ys) × (m ≡ n) × (r ≡ s)

digits_end : (m n : ℕ) (xs ys r s : List ℕ) → AllDigits 10 xs → AllDigits 10 ys → IsNoDigit m → IsNoDigit n → xs ++ m ∷ r ≡ ys ++ n ∷ s → IsSameCounts m n xs ys r s
digits_end m n [] [] r s x y other other' e = let head : m ≡ n = cc in let tail : r ≡ s = cc in (refl, head, tail)
digits_end m n [] (b ∷ ys) r s x y other other' e = let h : m ≡ b = cc in let is = digit_from_value b y.0 in absurd (no_digit_is m b other is.0 is.1 h)
digits_end m n (a ∷ xs) [] r s x y other other' e = let h : n ≡ a = cc in let is = digit_from_value a x.0 in absurd (no_digit_is n a other' is.0 is.1 h)
digits_end m n (a ∷ xs) (b ∷ ys) r s x y other other' e =
    let head : a ≡ b = cc in
    let tail : xs ++ m ∷ r ≡ ys ++ n ∷ s = cc in
    let more = digits_end m n xs ys r s x.1 y.1 other other' tail in
    let rest : xs ≡ ys = more.0 in
    let all : a ∷ xs ≡ b ∷ ys = cc in
    (all, more.1, more.2)

all_digits : (n : ℕ) → n < 100 → AllDigits 10 (decimal n)
all_digits n few = (decimal_is_IsNumeral n (omega (arith, few))).0.1

count_one : (m n : ℕ) → m < 100 → n < 100 → decimal m ≡ decimal n → m ≡ n
count_one m n few few' e = decimal_injective m n (omega (arith, few)) (omega (arith, few')) e

counts_one : (m n w f w' f' : ℕ) → IsNoDigit m → IsNoDigit n → w < 100 → f < 100 → w' < 100 → f' < 100 → two_counts m w f ≡ two_counts n w' f' → (w ≡ w') × (m ≡ n) × (f ≡ f')
counts_one m n w f w' f' other other' a b a' b' e =
    let same = digits_end m n (decimal w) (decimal w') (decimal f) (decimal f') (all_digits w a) (all_digits w' a') other other' e in
    (count_one w w' a a' same.0, same.1, count_one f f' b b' same.2)

pub split_counts : (mark w f : ℕ) (bytes before after : List ℕ) → IsNoDigit mark → w < 100 → IsSplit mark bytes before after → bytes ≡ two_counts mark w f → IsSameSplit before (decimal w) after (decimal f)
split_counts mark w f bytes before after other few split is =
    split_is_one mark bytes before after (decimal w) (decimal f) split (record { split = is; first = decimal_without mark w other (omega (arith, few)) })

letter_no_digit : (capital m : ℕ) → 57 < capital → IsLetter capital m → IsNoDigit m
letter_no_digit capital m high (inl e) = inr (omega (arith, high, e))
letter_no_digit capital m high (inr e) = inr (omega (arith, high, e))

no_minus : (capital m : ℕ) → 57 < capital → IsLetter capital m → m ≡ minus → ⊥
no_minus capital m high (inl e) is = omega (arith, high, e, is)
no_minus capital m high (inr e) is = omega (arith, high, e, is)

-- ---- a format from two counts
abbrev parts : Bool → ℕ → ℕ → FormatParts
parts s w r = record { signed = s; width = w; frac = r }

parts_are : (f : FormatParts) (s : Bool) (w r : ℕ) → f.signed ≡ s → f.width ≡ w → f.frac ≡ r → f ≡ parts s w r
parts_are f s w r a b c = λ i. parts (a i) (b i) (c i)

-- a search that can find only one format
found_by : (P : FormatParts → Type 0) (s : Bool) (w r : ℕ) (o : Option FormatParts) → (IsSome o ↔ IsFormat w r) → IfSome o (λ f. (f.signed ≡ s) × (f.width ≡ w) × (f.frac ≡ r)) → (IsFormat w r → P (parts s w r)) → ((f : FormatParts) → P f → IsFormat f.width f.frac × (f ≡ parts s w r))
    → MatchOption o ((f : FormatParts) → ¬ P f) (λ f. P f)
found_by P s w r None exists are to back = λ f is.
    let b = back f is in
    let valid : IsFormat w r = subst (λ g. IsFormat g.width g.frac) b.1 b.0 in
    let some : IsSome {T = FormatParts} None = exists.1 valid in
    absurd (cc)
found_by P s w r (Some f) exists are to back =
    let is = parts_are f s w r are.0 are.1 are.2 in
    subst P (sym is) (to (exists.0 refl))

within_to : (s : Bool) (w r mark : ℕ) (rest : List ℕ) → IsLetter fraction_letter mark → rest ≡ two_counts mark w r → IsFormat (w + r) r → IsCountedWithin s rest (parts s (w + r) r)
within_to s w r mark rest letter is valid =
    let whole : w + r - r ≡ w = omega arith in
    record { is = record { format = valid; signed_is = refl }; within = omega arith; mark = mark; is_mark = letter; text = is ∙ ap (λ n. two_counts mark n r) (sym whole) }

within_back : (s : Bool) (w r mark : ℕ) (rest : List ℕ) → w < 100 → r < 100 → IsLetter fraction_letter mark → rest ≡ two_counts mark w r → (f : FormatParts) → IsCountedWithin s rest f → IsFormat f.width f.frac × (f ≡ parts s (w + r) r)
within_back s w r mark rest few few' letter is f c =
    let most = c.is.format.is_width.most in
    let within = c.within in
    let same = counts_one mark c.mark w r (f.width - f.frac) f.frac (letter_no_digit fraction_letter mark (omega arith) letter) (letter_no_digit fraction_letter c.mark (omega arith) c.is_mark) few few' (omega (arith, most)) (omega (arith, most, within)) (sym is ∙ c.text) in
    (c.is.format, parts_are f s (w + r) r c.is.signed_is (omega (arith, same.0, same.2, within)) (sym same.2))

pub within_found : (s : Bool) (w r mark : ℕ) (rest : List ℕ) (o : Option FormatParts) → w < 100 → r < 100 → IsLetter fraction_letter mark → rest ≡ two_counts mark w r → (IsSome o ↔ IsFormat (w + r) r) → IfSome o (λ f. (f.signed ≡ s) × (f.width ≡ w + r) × (f.frac ≡ r))
    → MatchOption o ((f : FormatParts) → ¬ IsCountedWithin s rest f) (λ f. IsCountedWithin s rest f)
within_found s w r mark rest o few few' letter is exists are =
    found_by (IsCountedWithin s rest) s (w + r) r o exists are (within_to s w r mark rest letter is) (within_back s w r mark rest few few' letter is)

-- the counts after a minus: the fraction length less the width, and the fraction length
beyond_counts : (s : Bool) (missing r mark : ℕ) (rest : List ℕ) → missing < 100 → r < 100 → IsLetter fraction_letter mark → rest ≡ two_counts mark missing r → (f : FormatParts) → IsCountedBeyond s rest f → (missing ≡ f.frac - f.width) × (r ≡ f.frac)
beyond_counts s missing r mark rest few few' letter is f c =
    let within = c.is.format.within in
    let same = counts_one mark c.mark missing r (f.frac - f.width) f.frac (letter_no_digit fraction_letter mark (omega arith) letter) (letter_no_digit fraction_letter c.mark (omega arith) c.is_mark) few few' (omega (arith, within)) (omega (arith, within)) (sym is ∙ c.text) in
    (same.0, same.2)

pub none_missing : (s : Bool) (missing r mark : ℕ) (rest : List ℕ) → missing ≡ 0 → missing < 100 → r < 100 → IsLetter fraction_letter mark → rest ≡ two_counts mark missing r → (f : FormatParts) → IsCountedBeyond s rest f → ⊥
none_missing s missing r mark rest none few few' letter is f c =
    let same = beyond_counts s missing r mark rest few few' letter is f c in
    omega (arith, same.0, none, c.beyond)

pub beyond_found : (s : Bool) (missing r w mark : ℕ) (rest : List ℕ) (o : Option FormatParts) → w ≡ r - missing → 0 < missing → missing < 100 → r < 100 → IsLetter fraction_letter mark → rest ≡ two_counts mark missing r → (IsSome o ↔ IsFormat w r) → IfSome o (λ f. (f.signed ≡ s) × (f.width ≡ w) × (f.frac ≡ r))
    → MatchOption o ((f : FormatParts) → ¬ IsCountedBeyond s rest f) (λ f. IsCountedBeyond s rest f)
beyond_found s missing r w mark rest o w_is some few few' letter is exists are = found_by (IsCountedBeyond s rest) s w r o exists are to back
  where
    to : IsFormat w r → IsCountedBeyond s rest (parts s w r)
    to valid =
        let same : missing ≡ r - w = omega (arith, w_is, valid.is_width.some) in
        record { is = record { format = valid; signed_is = refl }; beyond = omega (arith, w_is, some, valid.is_width.some); mark = mark; is_mark = letter; text = is ∙ ap (λ n. two_counts mark n r) same }

    back : (f : FormatParts) → IsCountedBeyond s rest f → IsFormat f.width f.frac × (f ≡ parts s w r)
    back f c =
        let same = beyond_counts s missing r mark rest few few' letter is f c in
        (c.is.format, parts_are f s w r c.is.signed_is (omega (arith, same.0, same.1, w_is, c.beyond)) (sym same.1))

other_point : IsNoDigit point
other_point = inl (omega arith)

pointed_counts : (s : Bool) (w r : ℕ) (rest : List ℕ) → w < 100 → r < 100 → rest ≡ two_counts point w r → (f : FormatParts) → IsPointed s rest f → (f.width - f.frac ≡ w) × (f.frac ≡ r)
pointed_counts s w r rest few few' is f c =
    let most = c.is.format.is_width.most in
    let within = c.within in
    let same = counts_one point point w r (f.width - f.frac) f.frac other_point other_point few few' (omega (arith, most)) (omega (arith, most, within)) (sym is ∙ (c.text ∙ counts_within point f within)) in
    (sym same.0, sym same.2)

-- a signed pointed name with a whole count of 0 has no room for its sign bit
pub no_sign_bit : (s : Bool) (w r : ℕ) (rest : List ℕ) → s ≡ true → w ≡ 0 → w < 100 → r < 100 → rest ≡ two_counts point w r → (f : FormatParts) → IsPointed s rest f → ⊥
no_sign_bit s w r rest sign none few few' is f c =
    let same = pointed_counts s w r rest few few' is f c in
    omega (arith, same.0, none, c.sign_bit sign)

pub pointed_found : (s : Bool) (w r : ℕ) (rest : List ℕ) (o : Option FormatParts) → w < 100 → r < 100 → (s ≡ true → 0 < w) → rest ≡ two_counts point w r → (IsSome o ↔ IsFormat (w + r) r) → IfSome o (λ f. (f.signed ≡ s) × (f.width ≡ w + r) × (f.frac ≡ r))
    → MatchOption o ((f : FormatParts) → ¬ IsPointed s rest f) (λ f. IsPointed s rest f)
pointed_found s w r rest o few few' some is exists are = found_by (IsPointed s rest) s (w + r) r o exists are to back
  where
    to : IsFormat (w + r) r → IsPointed s rest (parts s (w + r) r)
    to valid =
        let whole : w + r - r ≡ w = omega arith in
        let within : r ≤ w + r = omega arith in
        record { is = record { format = valid; signed_is = refl }; within = within; sign_bit = λ e. omega (arith, some e); text = is ∙ (ap (λ n. two_counts point n r) (sym whole) ∙ sym (counts_within point (parts s (w + r) r) within)) }

    back : (f : FormatParts) → IsPointed s rest f → IsFormat f.width f.frac × (f ≡ parts s (w + r) r)
    back f c =
        let same = pointed_counts s w r rest few few' is f c in
        let within = c.within in
        (c.is.format, parts_are f s (w + r) r c.is.signed_is (omega (arith, same.0, same.1, within)) same.1)

pub fraction_found : (r : ℕ) (rest : List ℕ) (o : Option FormatParts) → r < 100 → rest ≡ decimal r → (IsSome o ↔ IsFormat (r + 1) r) → IfSome o (λ f. (f.signed ≡ true) × (f.width ≡ r + 1) × (f.frac ≡ r))
    → MatchOption o ((f : FormatParts) → ¬ IsFraction rest f) (λ f. IsFraction rest f)
fraction_found r rest o few is exists are = found_by (IsFraction rest) true (r + 1) r o exists are to back
  where
    to : IsFormat (r + 1) r → IsFraction rest (parts true (r + 1) r)
    to valid = record { is = record { format = valid; signed_is = refl }; sign_bit = refl; text = is }

    back : (f : FormatParts) → IsFraction rest f → IsFormat f.width f.frac × (f ≡ parts true (r + 1) r)
    back f c =
        let most = c.is.format.is_width.most in
        let same : f.frac ≡ r = count_one f.frac r (omega (arith, most, c.is.format.within)) few (sym c.text ∙ is) in
        (c.is.format, parts_are f true (r + 1) r c.is.signed_is (omega (arith, c.sign_bit, same)) same)

-- ---- what follows the letters
-- a search in a part of a name, restated for the name
carried : (P Q : FormatParts → Type 0) (o : Option FormatParts) → ((f : FormatParts) → P f → Q f) → ((f : FormatParts) → Q f → P f) → MatchOption o ((f : FormatParts) → ¬ P f) (λ f. P f) → MatchOption o ((f : FormatParts) → ¬ Q f) (λ f. Q f)
carried P Q None to back none = λ f is. none f (back f is)
carried P Q (Some f) to back is = to f is

-- digits before other bytes start with a digit
digit_first : (ds r : List ℕ) (m b : ℕ) (rest : List ℕ) → 0 < length ds → AllDigits 10 ds → ds ++ m ∷ r ≡ b ∷ rest → IsNoDigit b → ⊥
digit_first [] r m b rest some digits e other = omega (arith, some)
digit_first (d ∷ ds) r m b rest some digits e other = let h : b ≡ d = cc in let is = digit_from_value d digits.0 in no_digit_is b d other is.0 is.1 h

counts_begin : (w m : ℕ) (r : List ℕ) (b : ℕ) (rest : List ℕ) → w < 100 → decimal w ++ m ∷ r ≡ b ∷ rest → IsNoDigit b → ⊥
counts_begin w m r b rest few e other =
    let is = decimal_is_IsNumeral w (omega (arith, few)) in
    digit_first (decimal w) r m b rest is.0.0 is.0.1 e other

-- the name has a minus, and the counts follow it
abbrev IsAfterMinus : Bool → List ℕ → FormatParts → Type 0
IsAfterMinus s rest f = (counts : List ℕ) × (rest ≡ minus ∷ counts) × IsCountedBeyond s counts f

counted_cases : (s : Bool) (rest : List ℕ) (f : FormatParts) → IsCounted s rest f → IsCountedWithin s rest f ⊎ IsAfterMinus s rest f
counted_cases s rest f c = ⊎_elim
    (λ (beyond : f.width < f.frac). inr (two_counts c.mark (f.frac - f.width) f.frac, c.text ∙ counts_beyond c.mark f beyond, record { is = c.is; beyond = beyond; mark = c.mark; is_mark = c.is_mark; text = refl }))
    (λ (within : f.frac ≤ f.width). inl (record { is = c.is; within = within; mark = c.mark; is_mark = c.is_mark; text = c.text ∙ counts_within c.mark f within }))
    (cases_lt f.width f.frac)

counted_of_within : (s : Bool) (rest : List ℕ) (f : FormatParts) → IsCountedWithin s rest f → IsCounted s rest f
counted_of_within s rest f c = record { is = c.is; mark = c.mark; is_mark = c.is_mark; text = c.text ∙ sym (counts_within c.mark f c.within) }

counted_of_beyond : (s : Bool) (rest counts : List ℕ) (f : FormatParts) → rest ≡ minus ∷ counts → IsCountedBeyond s counts f → IsCounted s rest f
counted_of_beyond s rest counts f is c = record { is = c.is; mark = c.mark; is_mark = c.is_mark; text = is ∙ (ap (λ t. minus ∷ t) c.text ∙ sym (counts_beyond c.mark f c.beyond)) }

other_minus : IsNoDigit minus
other_minus = inl (omega arith)

within_begin : (s : Bool) (rest counts : List ℕ) (f : FormatParts) → rest ≡ minus ∷ counts → IsCountedWithin s rest f → ⊥
within_begin s rest counts f is c = counts_begin (f.width - f.frac) c.mark (decimal f.frac) minus counts (omega (arith, c.is.format.is_width.most)) (sym c.text ∙ is) other_minus

-- the text after I or U begins with a digit or a minus
counted_begin : (s : Bool) (rest : List ℕ) (f : FormatParts) (b : ℕ) (more : List ℕ) → IsCounted s rest f → rest ≡ b ∷ more → IsNoDigit b → b ≡ minus
counted_begin s rest f b more c is other = by_case (counted_cases s rest f c)
  where
    by_case : IsCountedWithin s rest f ⊎ IsAfterMinus s rest f → b ≡ minus
    by_case (inl x) = absurd (counts_begin (f.width - f.frac) x.mark (decimal f.frac) b more (omega (arith, x.is.format.is_width.most)) (sym x.text ∙ is) other)
    by_case (inr (counts, e, x)) = let both : b ∷ more ≡ minus ∷ counts = sym is ∙ e in cc

pub counted_after_minus : (s : Bool) (rest counts : List ℕ) (o : Option FormatParts) → rest ≡ minus ∷ counts → MatchOption o ((f : FormatParts) → ¬ IsCountedBeyond s counts f) (λ f. IsCountedBeyond s counts f) → MatchOption o ((f : FormatParts) → ¬ IsCounted s rest f) (λ f. IsCounted s rest f)
counted_after_minus s rest counts o is found = carried (IsCountedBeyond s counts) (IsCounted s rest) o (λ f c. counted_of_beyond s rest counts f is c) (λ f c. by_case f (counted_cases s rest f c)) found
  where
    by_case : (f : FormatParts) → IsCountedWithin s rest f ⊎ IsAfterMinus s rest f → IsCountedBeyond s counts f
    by_case f (inl x) = absurd (within_begin s rest counts f is x)
    by_case f (inr (other, e, x)) =
        let both : minus ∷ other ≡ minus ∷ counts = sym e ∙ is in
        let same : other ≡ counts = cc in
        subst (λ t. IsCountedBeyond s t f) same x

pub counted_without_minus : (s : Bool) (rest : List ℕ) (o : Option FormatParts) → ((counts : List ℕ) → rest ≡ minus ∷ counts → ⊥) → MatchOption o ((f : FormatParts) → ¬ IsCountedWithin s rest f) (λ f. IsCountedWithin s rest f) → MatchOption o ((f : FormatParts) → ¬ IsCounted s rest f) (λ f. IsCounted s rest f)
counted_without_minus s rest o none found = carried (IsCountedWithin s rest) (IsCounted s rest) o (counted_of_within s rest) (λ f c. by_case f (counted_cases s rest f c)) found
  where
    by_case : (f : FormatParts) → IsCountedWithin s rest f ⊎ IsAfterMinus s rest f → IsCountedWithin s rest f
    by_case f (inl x) = x
    by_case f (inr (counts, e, x)) = absurd (none counts e)

pub after_q_found : (rest : List ℕ) (first : ℕ) (counts : List ℕ) (o : Option FormatParts) → rest ≡ first ∷ counts → IsLetter q_letter first → MatchOption o ((f : FormatParts) → ¬ IsPointed false counts f) (λ f. IsPointed false counts f) → MatchOption o ((f : FormatParts) → ¬ IsAfterU rest f) (λ f. IsAfterU rest f)
after_q_found rest first counts o is letter found = carried (IsPointed false counts) (IsAfterU rest) o to back found
  where
    to : (f : FormatParts) → IsPointed false counts f → IsAfterU rest f
    to f p = inr (record { q = first; is_q = letter; counts = counts; head = is; pointed = p })

    back : (f : FormatParts) → IsAfterU rest f → IsPointed false counts f
    back f (inl c) = absurd (no_minus q_letter first (omega arith) letter (counted_begin false rest f first counts c is (letter_no_digit q_letter first (omega arith) letter)))
    back f (inr p) =
        let e : first ∷ counts ≡ p.q ∷ p.counts = sym is ∙ p.head in
        let same : p.counts ≡ counts = cc in
        subst (λ t. IsPointed false t f) same p.pointed

pub counted_after_u : (rest : List ℕ) (o : Option FormatParts) → ((q : ℕ) (counts : List ℕ) → IsLetter q_letter q → rest ≡ q ∷ counts → ⊥) → MatchOption o ((f : FormatParts) → ¬ IsCounted false rest f) (λ f. IsCounted false rest f) → MatchOption o ((f : FormatParts) → ¬ IsAfterU rest f) (λ f. IsAfterU rest f)
counted_after_u rest o other found = carried (IsCounted false rest) (IsAfterU rest) o (λ f c. inl c) back found
  where
    back : (f : FormatParts) → IsAfterU rest f → IsCounted false rest f
    back f (inl c) = c
    back f (inr p) = absurd (other p.q p.counts p.is_q p.head)

-- a byte is not two different letters
apart : (a b c : ℕ) → a < b → b < a + 32 → IsLetter a c → IsLetter b c → ⊥
apart a b c l m (inl e) (inl h) = omega (arith, e, h, l)
apart a b c l m (inl e) (inr h) = omega (arith, e, h, l)
apart a b c l m (inr e) (inl h) = omega (arith, e, h, m)
apart a b c l m (inr e) (inr h) = omega (arith, e, h, l)

i_or_q : (c : ℕ) → IsLetter 73 c → IsLetter q_letter c → ⊥
i_or_q c = apart 73 81 c (omega arith) (omega arith)

i_or_u : (c : ℕ) → IsLetter 73 c → IsLetter 85 c → ⊥
i_or_u c = apart 73 85 c (omega arith) (omega arith)

q_or_u : (c : ℕ) → IsLetter q_letter c → IsLetter 85 c → ⊥
q_or_u c = apart 81 85 c (omega arith) (omega arith)

-- the first letter of a name, and the text after it
abbrev IsLetterAndRest : ℕ → List ℕ → FormatParts → Type 0
IsLetterAndRest first rest f = (IsLetter 73 first × IsCounted true rest f) ⊎ (IsLetter q_letter first × IsAfterQ rest f) ⊎ (IsLetter 85 first × IsAfterU rest f)

i_part : (first : ℕ) (rest : List ℕ) (f : FormatParts) → IsLetter 73 first → IsLetterAndRest first rest f → IsCounted true rest f
i_part first rest f letter (inl (l, c)) = c
i_part first rest f letter (inr (inl (l, c))) = absurd (i_or_q first letter l)
i_part first rest f letter (inr (inr (l, c))) = absurd (i_or_u first letter l)

q_part : (first : ℕ) (rest : List ℕ) (f : FormatParts) → IsLetter q_letter first → IsLetterAndRest first rest f → IsAfterQ rest f
q_part first rest f letter (inl (l, c)) = absurd (i_or_q first l letter)
q_part first rest f letter (inr (inl (l, c))) = c
q_part first rest f letter (inr (inr (l, c))) = absurd (q_or_u first letter l)

u_part : (first : ℕ) (rest : List ℕ) (f : FormatParts) → IsLetter 85 first → IsLetterAndRest first rest f → IsAfterU rest f
u_part first rest f letter (inl (l, c)) = absurd (i_or_u first l letter)
u_part first rest f letter (inr (inl (l, c))) = absurd (q_or_u first l letter)
u_part first rest f letter (inr (inr (l, c))) = c

counted_split : (s : Bool) (first : ℕ) (rest : List ℕ) (f : FormatParts) → IsLetter (sign_letter s) first → IsCounted s rest f → IsLetterAndRest first rest f
counted_split true first rest f letter c = inl (letter, c)
counted_split false first rest f letter c = inr (inr (letter, inl c))

pointed_split : (s : Bool) (head : List ℕ) (first : ℕ) (rest : List ℕ) (f : FormatParts) → IsQ s head → first ∷ rest ≡ head ++ counts_text point f → IsFormat f.width f.frac → f.signed ≡ s → f.frac ≤ f.width → (f.signed ≡ true → f.frac < f.width) → IsLetterAndRest first rest f
pointed_split true head first rest f (q, letter, is) e valid signed within sign_bit =
    let both : first ∷ rest ≡ q ∷ counts_text point f = e ∙ ap (λ h. h ++ counts_text point f) is in
    let same : q ≡ first = cc in
    let tail : rest ≡ counts_text point f = cc in
    inr (inl (subst (IsLetter q_letter) same letter, inl (record { is = record { format = valid; signed_is = signed }; within = within; sign_bit = λ _. sign_bit signed; text = tail })))
pointed_split false head first rest f (u, q, letter, is_q, is) e valid signed within sign_bit =
    let both : first ∷ rest ≡ u ∷ q ∷ counts_text point f = e ∙ ap (λ h. h ++ counts_text point f) is in
    let same : u ≡ first = cc in
    let tail : rest ≡ q ∷ counts_text point f = cc in
    inr (inr (
      subst (IsLetter 85) same letter,
      inr (record {
        q = q;
        is_q = is_q;
        counts = counts_text point f;
        head = tail;
        pointed = record { is = record { format = valid; signed_is = signed }; within = within; sign_bit = λ e. absurd (cc); text = refl };
      }),
    ))

split_name : (word : List ℕ) (first : ℕ) (rest : List ℕ) (f : FormatParts) → word ≡ first ∷ rest → IsFormat f.width f.frac → IsCountedName word f ⊎ IsPointedName word f ⊎ IsFractionName word f → IsLetterAndRest first rest f
split_name word first rest f is valid (inl c) =
    let both : first ∷ rest ≡ c.sign ∷ counts_text c.mark f = sym is ∙ c.text in
    let same : c.sign ≡ first = cc in
    let tail : rest ≡ counts_text c.mark f = cc in
    counted_split f.signed first rest f (subst (IsLetter (sign_letter f.signed)) same c.is_sign) (record { is = record { format = valid; signed_is = refl }; mark = c.mark; is_mark = c.is_mark; text = tail })
split_name word first rest f is valid (inr (inl p)) = pointed_split f.signed p.head first rest f p.is_head (sym is ∙ p.text) valid refl p.within p.sign_bit
split_name word first rest f is valid (inr (inr n)) =
    let both : first ∷ rest ≡ n.q ∷ decimal f.frac = sym is ∙ n.text in
    let same : n.q ≡ first = cc in
    let tail : rest ≡ decimal f.frac = cc in
    inr (inl (subst (IsLetter q_letter) same n.is_q, inr (record { is = record { format = valid; signed_is = n.signed }; sign_bit = n.sign_bit; text = tail })))

counted_name : (s : Bool) (first : ℕ) (rest : List ℕ) (f : FormatParts) → IsLetter (sign_letter s) first → IsCounted s rest f → IsFormatName (first ∷ rest) f
counted_name s first rest f letter c = record {
  format = c.is.format;
  named = inl (record {
    sign = first;
    is_sign = subst (λ b. IsLetter (sign_letter b) first) (sym c.is.signed_is) letter;
    mark = c.mark;
    is_mark = c.is_mark;
    text = ap (λ t. first ∷ t) c.text;
  });
}

join_name : (first : ℕ) (rest : List ℕ) (f : FormatParts) → IsLetterAndRest first rest f → IsFormatName (first ∷ rest) f
join_name first rest f (inl (letter, c)) = counted_name true first rest f letter c
join_name first rest f (inr (inl (letter, inl p))) = record {
  format = p.is.format;
  named = inr (inl (record {
    head = first ∷ [];
    is_head = subst (λ b. IsQ b (first ∷ [])) (sym p.is.signed_is) (first, letter, refl);
    within = p.within;
    sign_bit = λ _. p.sign_bit refl;
    text = ap (λ t. first ∷ t) p.text;
  }));
}
join_name first rest f (inr (inl (letter, inr n))) = record {
  format = n.is.format;
  named = inr (inr (record { q = first; is_q = letter; signed = n.is.signed_is; sign_bit = n.sign_bit; text = ap (λ t. first ∷ t) n.text }));
}
join_name first rest f (inr (inr (letter, inl c))) = counted_name false first rest f letter c
join_name first rest f (inr (inr (letter, inr p))) = record {
  format = p.pointed.is.format;
  named = inr (inl (record {
    head = first ∷ p.q ∷ [];
    is_head = subst (λ b. IsQ b (first ∷ p.q ∷ [])) (sym p.pointed.is.signed_is) (first, p.q, letter, p.is_q, refl);
    within = p.pointed.within;
    sign_bit = λ e. (let other : true ≡ false = sym e ∙ p.pointed.is.signed_is in absurd (cc));
    text = ap (λ t. first ∷ t) (p.head ∙ ap (λ t. p.q ∷ t) p.pointed.text);
  }));
}

-- a search in the text after a letter, restated for the name
name_found : (P : FormatParts → Type 0) (word : List ℕ) (first : ℕ) (rest : List ℕ) (o : Option FormatParts) → word ≡ first ∷ rest → ((f : FormatParts) → P f → IsLetterAndRest first rest f) → ((f : FormatParts) → IsLetterAndRest first rest f → P f) → MatchOption o ((f : FormatParts) → ¬ P f) (λ f. P f) → MatchOption o ((f : FormatParts) → ¬ IsFormatName word f) (λ f. IsFormatName word f)
name_found P word first rest o is to back found =
    carried P (IsFormatName word) o (λ f p. subst (λ w. IsFormatName w f) (sym is) (join_name first rest f (to f p))) (λ f n. back f (split_name word first rest f is n.format n.named)) found

pub name_after_i : (word : List ℕ) (first : ℕ) (rest : List ℕ) (o : Option FormatParts) → word ≡ first ∷ rest → IsLetter 73 first → MatchOption o ((f : FormatParts) → ¬ IsCounted true rest f) (λ f. IsCounted true rest f) → MatchOption o ((f : FormatParts) → ¬ IsFormatName word f) (λ f. IsFormatName word f)
name_after_i word first rest o is letter found = name_found (IsCounted true rest) word first rest o is (λ f c. inl (letter, c)) (λ f. i_part first rest f letter) found

pub name_after_q : (word : List ℕ) (first : ℕ) (rest : List ℕ) (o : Option FormatParts) → word ≡ first ∷ rest → IsLetter q_letter first → MatchOption o ((f : FormatParts) → ¬ IsAfterQ rest f) (λ f. IsAfterQ rest f) → MatchOption o ((f : FormatParts) → ¬ IsFormatName word f) (λ f. IsFormatName word f)
name_after_q word first rest o is letter found = name_found (IsAfterQ rest) word first rest o is (λ f c. inr (inl (letter, c))) (λ f. q_part first rest f letter) found

pub name_after_u : (word : List ℕ) (first : ℕ) (rest : List ℕ) (o : Option FormatParts) → word ≡ first ∷ rest → IsLetter 85 first → MatchOption o ((f : FormatParts) → ¬ IsAfterU rest f) (λ f. IsAfterU rest f) → MatchOption o ((f : FormatParts) → ¬ IsFormatName word f) (λ f. IsFormatName word f)
name_after_u word first rest o is letter found = name_found (IsAfterU rest) word first rest o is (λ f c. inr (inr (letter, c))) (λ f. u_part first rest f letter) found

-- the first byte after U is not a Q
pub not_q_first : (rest : List ℕ) (first : ℕ) (counts : List ℕ) (is_q : Bool) → rest ≡ first ∷ counts → (IsTrue is_q ↔ IsLetter q_letter first) → is_q ≡ false → (q : ℕ) (more : List ℕ) → IsLetter q_letter q → rest ≡ q ∷ more → ⊥
not_q_first rest first counts is_q is test none q more letter e =
    let both : first ∷ counts ≡ q ∷ more = sym is ∙ e in
    let head : q ≡ first = cc in
    let holds : IsTrue is_q = test.1 (subst (IsLetter q_letter) head letter) in
    absurd (cc)

-- ---- a word names at most one format
within_same : (s : Bool) (rest : List ℕ) (f g : FormatParts) → IsCountedWithin s rest f → IsCountedWithin s rest g → f ≡ g
within_same s rest f g a b =
    let most = b.is.format.is_width.most in
    let within = b.within in
    let found = within_back s (g.width - g.frac) g.frac b.mark rest (omega (arith, most)) (omega (arith, most, within)) b.is_mark b.text f a in
    found.1 ∙ sym (parts_are g s (g.width - g.frac + g.frac) g.frac b.is.signed_is (omega (arith, within)) refl)

beyond_same : (s : Bool) (rest : List ℕ) (f g : FormatParts) → IsCountedBeyond s rest f → IsCountedBeyond s rest g → f ≡ g
beyond_same s rest f g a b =
    let within = b.is.format.within in
    let same = beyond_counts s (g.frac - g.width) g.frac b.mark rest (omega (arith, within)) (omega (arith, within)) b.is_mark b.text f a in
    parts_are f s g.width g.frac a.is.signed_is (omega (arith, same.0, same.1, a.beyond, b.beyond)) (sym same.1) ∙ sym (parts_are g s g.width g.frac b.is.signed_is refl refl)

counted_same : (s : Bool) (rest : List ℕ) (f g : FormatParts) → IsCounted s rest f → IsCounted s rest g → f ≡ g
counted_same s rest f g a b = by_cases (counted_cases s rest f a) (counted_cases s rest g b)
  where
    by_cases : IsCountedWithin s rest f ⊎ IsAfterMinus s rest f → IsCountedWithin s rest g ⊎ IsAfterMinus s rest g → f ≡ g
    by_cases (inl x) (inl y) = within_same s rest f g x y
    by_cases (inl x) (inr (counts, e, y)) = absurd (within_begin s rest counts f e x)
    by_cases (inr (counts, e, x)) (inl y) = absurd (within_begin s rest counts g e y)
    by_cases (inr (counts, e, x)) (inr (other, e', y)) =
        let both : minus ∷ counts ≡ minus ∷ other = sym e ∙ e' in
        let same : counts ≡ other = cc in
        beyond_same s other f g (subst (λ t. IsCountedBeyond s t f) same x) y

pointed_same : (s : Bool) (rest : List ℕ) (f g : FormatParts) → IsPointed s rest f → IsPointed s rest g → f ≡ g
pointed_same s rest f g a b =
    let most = b.is.format.is_width.most in
    let within = b.within in
    let same = pointed_counts s (g.width - g.frac) g.frac rest (omega (arith, most)) (omega (arith, most, within)) (b.text ∙ counts_within point g within) f a in
    parts_are f s g.width g.frac a.is.signed_is (omega (arith, same.0, same.1, within, a.within)) same.1 ∙ sym (parts_are g s g.width g.frac b.is.signed_is refl refl)

fraction_same : (rest : List ℕ) (f g : FormatParts) → IsFraction rest f → IsFraction rest g → f ≡ g
fraction_same rest f g a b =
    let e : f.frac ≡ g.frac = count_one f.frac g.frac (omega (arith, a.is.format.is_width.most, a.is.format.within)) (omega (arith, b.is.format.is_width.most, b.is.format.within)) (sym a.text ∙ b.text) in
    parts_are f true g.width g.frac a.is.signed_is (omega (arith, a.sign_bit, b.sign_bit, e)) e ∙ sym (parts_are g true g.width g.frac b.is.signed_is refl refl)

pointed_or_fraction : (rest : List ℕ) (f g : FormatParts) → IsPointed true rest f → IsFraction rest g → ⊥
pointed_or_fraction rest f g a b =
    split_has_one point rest (decimal (f.width - f.frac)) (decimal f.frac) (a.text ∙ counts_within point f a.within)
    (ap (count_of point) b.text ∙ decimal_without point g.frac other_point (omega (arith, b.is.format.is_width.most, b.is.format.within)))

after_q_same : (rest : List ℕ) (f g : FormatParts) → IsAfterQ rest f → IsAfterQ rest g → f ≡ g
after_q_same rest f g (inl a) (inl b) = pointed_same true rest f g a b
after_q_same rest f g (inl a) (inr b) = absurd (pointed_or_fraction rest f g a b)
after_q_same rest f g (inr a) (inl b) = absurd (pointed_or_fraction rest g f b a)
after_q_same rest f g (inr a) (inr b) = fraction_same rest f g a b

counted_or_pointed : (rest : List ℕ) (f g : FormatParts) → IsCounted false rest f → IsPointedByQ rest g → ⊥
counted_or_pointed rest f g a b = no_minus q_letter b.q (omega arith) b.is_q (counted_begin false rest f b.q b.counts a b.head (letter_no_digit q_letter b.q (omega arith) b.is_q))

after_u_same : (rest : List ℕ) (f g : FormatParts) → IsAfterU rest f → IsAfterU rest g → f ≡ g
after_u_same rest f g (inl a) (inl b) = counted_same false rest f g a b
after_u_same rest f g (inl a) (inr b) = absurd (counted_or_pointed rest f g a b)
after_u_same rest f g (inr a) (inl b) = absurd (counted_or_pointed rest g f b a)
after_u_same rest f g (inr a) (inr b) =
    let both : a.q ∷ a.counts ≡ b.q ∷ b.counts = sym a.head ∙ b.head in
    let tail : a.counts ≡ b.counts = cc in
    pointed_same false b.counts f g (subst (λ t. IsPointed false t f) tail a.pointed) b.pointed

same_rest : (first : ℕ) (rest : List ℕ) (f g : FormatParts) → IsLetterAndRest first rest f → IsLetterAndRest first rest g → f ≡ g
same_rest first rest f g (inl (letter, a)) b = counted_same true rest f g a (i_part first rest g letter b)
same_rest first rest f g (inr (inl (letter, a))) b = after_q_same rest f g a (q_part first rest g letter b)
same_rest first rest f g (inr (inr (letter, a))) b = after_u_same rest f g a (u_part first rest g letter b)

not_empty : (f : FormatParts) → IsCountedName [] f ⊎ IsPointedName [] f ⊎ IsFractionName [] f → ⊥
not_empty f (inl c) = let e : [] ≡ c.sign ∷ counts_text c.mark f = c.text in cc
not_empty f (inr (inl p)) = omega (arith, ap length p.text, length-append p.head (counts_text point f), length-append (signed_decimal (whole_length f)) (point ∷ decimal f.frac))
not_empty f (inr (inr n)) = let e : [] ≡ n.q ∷ decimal f.frac = n.text in cc

pub name_one : FormatNameIsTheOne
name_one [] f g a b = absurd (not_empty f a.named)
name_one (first ∷ rest) f g a b = same_rest first rest f g (split_name (first ∷ rest) first rest f refl a.format a.named) (split_name (first ∷ rest) first rest g refl b.format b.named)

-- ---- the words of the programs are names
pub text_names : (f : FormatParts) → IsFormat f.width f.frac → IsFormatName (format_text f) f
text_names f valid = record {
  format = valid;
  named = inl (record { sign = sign_letter f.signed; is_sign = inl refl; mark = fraction_letter; is_mark = inl refl; text = refl });
}

pub name_pushed : (f : FormatParts) (letter : ℕ) (a b d e : List ℕ) → IsFormat f.width f.frac → letter ≡ sign_letter f.signed → a ≡ letter ∷ [] → b ≡ a ++ signed_decimal (whole_length f) → d ≡ b ++ fraction_letter ∷ [] → e ≡ d ++ decimal f.frac → IsFormatName e f
name_pushed f letter a b d e valid is pa pb pd pe =
    let whole = signed_decimal (whole_length f) in
    let two : b ≡ letter ∷ whole = pb ∙ ap (λ t. t ++ whole) pa in
    let three : d ≡ letter ∷ (whole ++ fraction_letter ∷ []) = pd ∙ ap (λ t. t ++ fraction_letter ∷ []) two in
    let four : e ≡ letter ∷ (whole ++ fraction_letter ∷ []) ++ decimal f.frac = pe ∙ ap (λ t. t ++ decimal f.frac) three in
    let tail : (whole ++ fraction_letter ∷ []) ++ decimal f.frac ≡ counts_text fraction_letter f = append_assoc whole (fraction_letter ∷ []) (decimal f.frac) in
    let same : e ≡ format_text f = four ∙ (ap (λ t. letter ∷ t) tail ∙ ap (λ l. l ∷ counts_text fraction_letter f) is) in
    subst (λ t. IsFormatName t f) (sym same) (text_names f valid)

pub word_names : FormatWordIsAName
word_names word f is = subst (λ t. IsFormatName t f) (sym is.text) (text_names f (type_format f.width f.frac is.format))
