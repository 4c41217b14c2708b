-- The digits of a text, and its parts.
use Rattle.std.proofs.Common.{◌≡◌, ℕ, suc, ◌+◌, ◌-◌, ◌<◌, ◌≤◌, Option, Some, None, is_some, Bool, true, false, cond, nat_lt, List, [], ◌∷◌, ◌++◌, length, take, drop, get_or, refl, sym, ap, ◌∙◌, arith, append-nil, length-append, take-append-drop, length-take, length-drop, lt-ltb, le-ltb}
use Rattle.std.proofs.lemmas.List.{drop_more, take_at, drop_at, take_more, take_rest}
use Rattle.std.specs.Prelude.{MatchOption}
use Rattle.std.specs.Char.{digit_value}
use Rattle.fixed_numeral.specs.Digits.{digits_in}

pub digits_in_none : digits_in [] ≡ []
unfolding digits_in
digits_in_none = refl

cons_prefix : (c : Bool) (x : ℕ) (xs ys : List ℕ) → cond c (x ∷ xs) xs ++ ys ≡ cond c (x ∷ (xs ++ ys)) (xs ++ ys)
cons_prefix true x xs ys = refl
cons_prefix false x xs ys = refl

pub digits_in_append : (xs ys : List ℕ) → digits_in (xs ++ ys) ≡ digits_in xs ++ digits_in ys
unfolding digits_in
digits_in_append [] ys = refl
digits_in_append (x ∷ xs) ys = rw (digits_in_append xs ys) (sym (cons_prefix (nat_lt (digit_value x) 16) (digit_value x) (digits_in xs) (digits_in ys)))

-- a digit adds its value before the digits of the other bytes; another byte adds nothing
pub digit_before : (b d : ℕ) (bs : List ℕ) → d ≡ digit_value b → d < 16 → digits_in (b ∷ bs) ≡ d ∷ digits_in bs
unfolding digits_in
digit_before b d bs e h =
    let t : nat_lt (digit_value b) 16 ≡ true = lt-ltb _ _ (omega (arith, e)) in
    rw (t, e) refl

pub other_before : (b : ℕ) (bs : List ℕ) → 16 ≤ digit_value b → digits_in (b ∷ bs) ≡ digits_in bs
unfolding digits_in
other_before b bs h =
    rw (le-ltb _ _ h) refl

-- the digits of a text are those before an index and those from it on
pub cut : (bs : List ℕ) (i : ℕ) → i < length bs → digits_in bs ≡ digits_in (take i bs) ++ digits_in (get_or bs i 0 ∷ drop (i + 1) bs)
cut bs i l = ap digits_in (sym (take-append-drop i bs)) ∙ digits_in_append (take i bs) (drop i bs) ∙ ap (λ ys. digits_in (take i bs) ++ digits_in ys) (drop_more bs i 0 l)

pub first_is : (bs : List ℕ) (i d : ℕ) → i < length bs → digits_in (take i bs) ≡ [] → d ≡ digit_value (get_or bs i 0) → d < 16 → digits_in bs ≡ d ∷ digits_in (drop (i + 1) bs)
first_is bs i d l none e h = cut bs i l ∙ rw (none, digit_before (get_or bs i 0) d (drop (i + 1) bs) e h) refl

one_alone : (b : ℕ) → 16 ≤ digit_value b → digits_in (b ∷ []) ≡ []
one_alone b h = other_before b [] h ∙ digits_in_none

pub none_more : (bs : List ℕ) (i : ℕ) → i < length bs → digits_in (take i bs) ≡ [] → 16 ≤ digit_value (get_or bs i 0) → digits_in (take (i + 1) bs) ≡ []
none_more bs i l none h = ap digits_in (take_more bs i 0 l) ∙ digits_in_append (take i bs) (get_or bs i 0 ∷ []) ∙ rw (none, one_alone (get_or bs i 0) h) refl

pub digits_le : (bs : List ℕ) → length (digits_in bs) ≤ length bs
unfolding digits_in
digits_le [] = omega arith
digits_le (b ∷ bs) = shorter (nat_lt (digit_value b) 16) (digit_value b) (digits_in bs) bs (digits_le bs)
  where
    shorter : (c : Bool) (x : ℕ) (ds bs : List ℕ) → length ds ≤ length bs → length (cond c (x ∷ ds) ds) ≤ suc (length bs)
    shorter true x ds bs h = omega arith
    shorter false x ds bs h = omega arith

-- the digits of a prefix are the first digits of the text
pub split_prefix : (bs : List ℕ) (k i : ℕ) → length (digits_in (take k bs)) ≡ i → digits_in (take k bs) ≡ take i (digits_in bs)
split_prefix bs k i e = sym (ap (take i) (ap digits_in (sym (take-append-drop k bs)) ∙ digits_in_append (take k bs) (drop k bs)) ∙ take_at (digits_in (take k bs)) (digits_in (drop k bs)) i e)

pub split_back : (bs : List ℕ) (k i : ℕ) → length (digits_in (take k bs)) ≡ i → digits_in (drop k bs) ≡ drop i (digits_in bs)
split_back bs k i e = sym (ap (drop i) (ap digits_in (sym (take-append-drop k bs)) ∙ digits_in_append (take k bs) (drop k bs)) ∙ drop_at (digits_in (take k bs)) (digits_in (drop k bs)) i e)

-- a prefix has as many digits as bytes if every byte of the text is a digit
pub all_counted : (bs : List ℕ) (k : ℕ) → length (digits_in bs) ≡ length bs → k ≤ length bs → length (digits_in (take k bs)) ≡ k
all_counted bs k e l =
    let whole : length (digits_in bs) ≡ length (digits_in (take k bs)) + length (digits_in (drop k bs)) = ap length (ap digits_in (sym (take-append-drop k bs)) ∙ digits_in_append (take k bs) (drop k bs)) ∙ length-append (digits_in (take k bs)) (digits_in (drop k bs)) in
    omega (arith, digits_le (take k bs), digits_le (drop k bs), length-take k bs, length-drop k bs)

pub count_more : (bs : List ℕ) (i n d : ℕ) → i < length bs → length (digits_in (take i bs)) ≡ n → d ≡ digit_value (get_or bs i 0) → d < 16 → length (digits_in (take (i + 1) bs)) ≡ n + 1
count_more bs i n d l e v h = ap length (ap digits_in (take_more bs i 0 l) ∙ digits_in_append (take i bs) (get_or bs i 0 ∷ []) ∙ ap (λ ys. digits_in (take i bs) ++ ys) (digit_before (get_or bs i 0) d [] v h)) ∙ length-append (digits_in (take i bs)) (d ∷ digits_in []) ∙ rw (e, digits_in_none) refl

pub count_same : (bs : List ℕ) (i n : ℕ) → i < length bs → length (digits_in (take i bs)) ≡ n → 16 ≤ digit_value (get_or bs i 0) → length (digits_in (take (i + 1) bs)) ≡ n
count_same bs i n l e h = ap length (ap digits_in (take_more bs i 0 l) ∙ digits_in_append (take i bs) (get_or bs i 0 ∷ [])) ∙ (rw (one_alone (get_or bs i 0) h) (ap length (append-nil (digits_in (take i bs))))) ∙ e

-- ---- restated for the goals
pub rest_is : (bs ds : List ℕ) (i d : ℕ) → digits_in bs ≡ ds → i < length bs → digits_in (take i bs) ≡ [] → d ≡ digit_value (get_or bs i 0) → d < 16 → ds ≡ d ∷ digits_in (take (length bs - (i + 1)) (drop (i + 1) bs))
rest_is bs ds i d same l none e h = sym same ∙ first_is bs i d l none e h ∙ rw (take_rest bs (i + 1)) refl

pub back_is : (bs ds : List ℕ) (k i : ℕ) → digits_in bs ≡ ds → length (digits_in (take k bs)) ≡ i → digits_in (take (length bs - k) (drop k bs)) ≡ drop i ds
back_is bs ds k i same e = ap digits_in (take_rest bs k) ∙ split_back bs k i e ∙ ap (drop i) same

pub prefix_is : (bs ds : List ℕ) (k i : ℕ) → digits_in bs ≡ ds → length (digits_in (take k bs)) ≡ i → digits_in (take k bs) ≡ take i ds
prefix_is bs ds k i same e = split_prefix bs k i e ∙ ap (take i) same

pub plain_prefix : (bs ds : List ℕ) (n i : ℕ) → digits_in bs ≡ ds → n ≡ length (digits_in bs) → n ≡ length bs → i ≤ length ds → (length (digits_in (take i bs)) ≡ i) × (length (take i bs) ≡ i) × (digits_in (take i bs) ≡ take i ds)
plain_prefix bs ds n i same m e l =
    let within : i ≤ length bs = omega (arith, ap length same) in
    let counted : length (digits_in (take i bs)) ≡ i = all_counted bs i (omega arith) within in
    (counted, omega (arith, length-take i bs), prefix_is bs ds i i same counted)

abbrev pub IsDigitOf : ℕ → Option ℕ → Type 0
IsDigitOf b o = MatchOption o (16 ≤ digit_value b) (λ d. (d ≡ digit_value b) × (d < 16))

pub some_more : (bs : List ℕ) (k n : ℕ) (o : Option ℕ) → IsDigitOf (get_or bs k 0) o → is_some o ≡ true → k < length bs → length (digits_in (take k bs)) ≡ n → length (digits_in (take (k + 1) bs)) ≡ n + 1
some_more bs k n None h s l e = absurd (cc)
some_more bs k n (Some d) h s l e = count_more bs k n d l e h.0 h.1

pub none_same : (bs : List ℕ) (k n : ℕ) (o : Option ℕ) → IsDigitOf (get_or bs k 0) o → is_some o ≡ false → k < length bs → length (digits_in (take k bs)) ≡ n → length (digits_in (take (k + 1) bs)) ≡ n
none_same bs k n (Some d) h s l e = absurd (cc)
none_same bs k n None h s l e = count_same bs k n l e h
