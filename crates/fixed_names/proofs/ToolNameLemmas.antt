-- How the names of formats in other tools are read, and that a word names at most one format.
use Rattle.std.proofs.Common.{◌≡◌, ◌∙◌, ◌⊎◌, ◌+◌, ◌-◌, ◌<◌, ◌≤◌, ◌^◌, ◌==◌, ℕ, suc, zero, ℤ, pos, negsuc, neg_ℤ, Bool, true, false, if◌then◌else◌, cond, eqb, List, [], ◌∷◌, ◌++◌, length, codes, take, drop, get_or, ◌↔◌, Option, Some, None, IsSome, IfSome, MatchOption, FitsSigned, w64, refl, sym, ap, subst, arith, inl, inr}
use Rattle.std.specs.Fmt.{decimal, signed_decimal}
use Rattle.std.proofs.lemmas.Bool.{eq-eqb, false≢true}
use Rattle.std.specs.Str.Parse.{AllDigits}
use Rattle.std.proofs.lemmas.Str.Parse.{digit_from_value}
use Rattle.std.proofs.lemmas.Fmt.{decimal_injective, decimal_is_IsNumeral, signed_decimal_injective}
use Rattle.std.proofs.lemmas.Int.{fits_signed_from_abs, ints}
use Rattle.std.proofs.lemmas.List.{append_assoc, append_cancel_left, append_cancel_right, take-append-drop, length-append}
use lib.Pointwise.{bytes_decides, pointwise}
use lib.Signed.{mag}
use Rattle.fixed_bits.specs.Formats.{FormatParts, IsFormat, whole_length}
use Rattle.fixed_names.specs.Inner.ToolParts.{HasNumbers, IsNamedIn, IsSmall, IsWholeIn, after_mark, first_of, head_of, mark_of, numbers_text, second_of, tail_of}
use Rattle.fixed_respell.specs.Split.{IsSplit, count_of}
use Rattle.fixed_names.specs.ToolNames.{IsFormName, IsToolName, IsWholeName, pair_text, sign_text, tool_text}
use Rattle.fixed_names.specs.declared.tool_names.ToolForm.{ToolForm}
use Rattle.fixed_names.specs.declared.tool_names.ToolForm.TheVariants.{Hls, HlsSpaced, Vhdl, Fi, FiSpaced, NumericType, NumericTypeSpaced, Simulink}
use Rattle.fixed_names.specs.Laws.{NameIsTheOne, ToolNameIsTheOne}
use Rattle.fixed_respell.proofs.Public.{name_one}
use Rattle.fixed_respell.specs.FormatNames.{IsCountedName, IsFormatName, IsFractionName, IsLetter, IsPointedName, IsQ, point}
use Rattle.fixed_respell.specs.Words.{counts_text, sign_letter}
use Rattle.fixed_respell.specs.Lemmas.FormatLemmas.{IsNoDigit, decimal_without, whole_small}
use Rattle.fixed_respell.specs.Lemmas.SplitLemmas.{count-append, count_cons, same_split, split_has_one, split_is_one}

-- ---- the result of a search, restated
pub mapped : {T N N' : Type 0} {S S' : T → Type 0} (o : Option T) → MatchOption o N S → (N → N') → ((x : T) → S x → S' x) → MatchOption o N' S'
mapped None found none some = none found
mapped (Some x) found none some = some x found

-- ---- texts before and after
drop_front : (xs ys : List ℕ) → drop (length xs) (xs ++ ys) ≡ ys
drop_front [] ys = refl
drop_front (x ∷ xs) ys = drop_front xs ys

take_front : (xs ys : List ℕ) → take (length xs) (xs ++ ys) ≡ xs
take_front [] ys = refl
take_front (x ∷ xs) ys = ap (λ l. x ∷ l) (take_front xs ys)

pub has_head : (bytes head rest : List ℕ) → pointwise (λ a b. a == b) (take (length head) bytes) head ≡ true → rest ≡ drop (length head) bytes → bytes ≡ head ++ rest
has_head bytes head rest same is =
    let front : take (length head) bytes ≡ head = (bytes_decides (take (length head) bytes) head).0 same in
    sym (take-append-drop (length head) bytes) ∙ (ap (λ l. l ++ drop (length head) bytes) front ∙ ap (λ l. head ++ l) (sym is))

pub no_head : (bytes head rest : List ℕ) → pointwise (λ a b. a == b) (take (length head) bytes) head ≡ false → bytes ≡ head ++ rest → ⊥
no_head bytes head rest other is =
    let front : take (length head) bytes ≡ head = ap (take (length head)) is ∙ take_front head rest in
    false≢true (sym other ∙ (bytes_decides (take (length head) bytes) head).1 front)

pub has_tail : (bytes tail rest : List ℕ) → pointwise (λ a b. a == b) (drop (length bytes - length tail) bytes) tail ≡ true → rest ≡ take (length bytes - length tail) bytes → bytes ≡ rest ++ tail
has_tail bytes tail rest same is =
    let n : ℕ = length bytes - length tail in
    let back : drop n bytes ≡ tail = (bytes_decides (drop n bytes) tail).0 same in
    sym (take-append-drop n bytes) ∙ (ap (λ l. take n bytes ++ l) back ∙ ap (λ l. l ++ tail) (sym is))

pub no_tail : (bytes tail rest : List ℕ) → pointwise (λ a b. a == b) (drop (length bytes - length tail) bytes) tail ≡ false → bytes ≡ rest ++ tail → ⊥
no_tail bytes tail rest other is =
    let count : length bytes ≡ length rest + length tail = ap length is ∙ length-append rest tail in
    let front : length bytes - length tail ≡ length rest = omega (arith, count) in
    let back : drop (length bytes - length tail) bytes ≡ tail = ap (λ n. drop n bytes) front ∙ (ap (drop (length rest)) is ∙ drop_front rest tail) in
    false≢true (sym other ∙ (bytes_decides (drop (length bytes - length tail) bytes) tail).1 back)

-- ---- numbers below 100 in size
decimal-ne_minus : (n : ℕ) (ds : List ℕ) → n < 2 ^ 64 → decimal n ≡ 45 ∷ ds → ⊥
decimal-ne_minus n ds fits e =
    let digits : AllDigits 10 (45 ∷ ds) = subst (λ t. AllDigits 10 t) e (decimal_is_IsNumeral n fits).0.1 in
    let first = digit_from_value 45 digits.0 in
    absurd (omega (arith, first.0))

pub minus_is : (n : ℕ) → 0 < n → signed_decimal (neg_ℤ (pos n)) ≡ 45 ∷ decimal n
minus_is zero some = absurd (omega (arith, some))
minus_is (suc n) some = refl

pub no_digits : (digits : List ℕ) (z : ℤ) → ((n : ℕ) → n < 100 → ¬ (digits ≡ decimal n)) → IsSmall z → 45 ∷ digits ≡ signed_decimal z → ⊥
no_digits digits (pos n) none small e = decimal-ne_minus n digits (omega (arith, ints, small.below)) (sym e)
no_digits digits (negsuc n) none small e = none (suc n) (omega (arith, ints, small.above)) (ap (drop 1) e)

pub no_zero : (digits : List ℕ) (size : ℕ) (z : ℤ) → size ≡ 0 → digits ≡ decimal size → IsSmall z → 45 ∷ digits ≡ signed_decimal z → ⊥
no_zero digits size (pos n) none is small e = decimal-ne_minus n digits (omega (arith, ints, small.below)) (sym e)
no_zero digits size (negsuc n) none is small e = omega (arith, none, decimal_injective size (suc n) (omega (arith, none)) (omega (arith, ints, small.above)) (sym is ∙ ap (drop 1) e))

pub no_number : (bytes : List ℕ) (z : ℤ) → ((rest : List ℕ) → ¬ (bytes ≡ 45 ∷ rest)) → ((n : ℕ) → n < 100 → ¬ (bytes ≡ decimal n)) → IsSmall z → bytes ≡ signed_decimal z → ⊥
no_number bytes (pos n) other none small e = none n (omega (arith, ints, small.below)) e
no_number bytes (negsuc n) other none small e = other (decimal (suc n)) e

number_without : (b : ℕ) (z : ℤ) → IsNoDigit b → ((b == 45) ≡ false) → ((45 == b) ≡ false) → IsSmall z → count_of b (signed_decimal z) ≡ 0
number_without b (pos n) other differs differs' small = decimal_without b n other (omega (arith, ints, small.below))
number_without b (negsuc n) other differs differs' small =
    omega (arith, count_cons b 45 (decimal (suc n)), ap (λ t. cond t 1 0 + count_of b (decimal (suc n))) differs', decimal_without b (suc n) other (omega (arith, ints, small.above)))

pub small_fits : (z : ℤ) → IsSmall z → FitsSigned w64 z
small_fits (pos n) small = fits_signed_from_abs w64 (pos n) (omega (arith, ints, small.below))
small_fits (negsuc n) small = fits_signed_from_abs w64 (negsuc n) (omega (arith, ints, small.above))

-- ---- the two numbers of a name
carried : (P Q : FormatParts → Type 0) (o : Option FormatParts) → ((f : FormatParts) → P f → Q f) → ((f : FormatParts) → Q f → P f) → MatchOption o ((f : FormatParts) → ¬ P f) (λ f. P f) → MatchOption o ((f : FormatParts) → ¬ Q f) (λ f. Q f)
carried P Q None to back none = λ f q. none f (back f q)
carried P Q (Some f) to back p = to f p

-- the mark of a form is neither a digit nor a minus and occurs in neither `sfix` nor `ufix`
record IsMark (form : ToolForm) : Type 0 where
  other : IsNoDigit (mark_of form)
  no_minus : (mark_of form == 45) ≡ false
  no_minus' : (45 == mark_of form) ≡ false
  no_signed : count_of (mark_of form) (codes "sfix") ≡ 0
  no_unsigned : count_of (mark_of form) (codes "ufix") ≡ 0

mark_other : (form : ToolForm) → IsMark form
mark_other Hls = record { other = inl (omega arith); no_minus = refl; no_minus' = refl; no_signed = refl; no_unsigned = refl }
mark_other HlsSpaced = record { other = inl (omega arith); no_minus = refl; no_minus' = refl; no_signed = refl; no_unsigned = refl }
mark_other Vhdl = record { other = inl (omega arith); no_minus = refl; no_minus' = refl; no_signed = refl; no_unsigned = refl }
mark_other Fi = record { other = inl (omega arith); no_minus = refl; no_minus' = refl; no_signed = refl; no_unsigned = refl }
mark_other FiSpaced = record { other = inl (omega arith); no_minus = refl; no_minus' = refl; no_signed = refl; no_unsigned = refl }
mark_other NumericType = record { other = inl (omega arith); no_minus = refl; no_minus' = refl; no_signed = refl; no_unsigned = refl }
mark_other NumericTypeSpaced = record { other = inl (omega arith); no_minus = refl; no_minus' = refl; no_signed = refl; no_unsigned = refl }
mark_other Simulink = record { other = inr (omega arith); no_minus = refl; no_minus' = refl; no_signed = refl; no_unsigned = refl }

no_mark_in : (form : ToolForm) (z : ℤ) → IsSmall z → count_of (mark_of form) (signed_decimal z) ≡ 0
no_mark_in form z small = let other = mark_other form in number_without (mark_of form) z other.other other.no_minus other.no_minus' small

-- a text splits at its mark into its two numbers
pub parts_are : (form : ToolForm) (middle before after : List ℕ) (a b : ℤ) → IsSmall a → IsSplit (mark_of form) middle before after → middle ≡ signed_decimal a ++ ((mark_of form ∷ after_mark form) ++ signed_decimal b) → (before ≡ signed_decimal a) × (after ≡ after_mark form ++ signed_decimal b)
parts_are form middle before after a b small split is =
    let one = split_is_one (mark_of form) middle before after (signed_decimal a) (after_mark form ++ signed_decimal b) split (record { split = is; first = no_mark_in form a small }) in
    (one.before, one.after)

text_middle : (form : ToolForm) (signed : Bool) (a b : ℤ) → numbers_text form signed a b ≡ head_of form signed ++ ((signed_decimal a ++ ((mark_of form ∷ after_mark form) ++ signed_decimal b)) ++ tail_of form)
unfolding pair_text
text_middle form signed a b =
    ap (λ l. head_of form signed ++ l) (ap (λ l. signed_decimal a ++ l) (sym (append_assoc (mark_of form ∷ after_mark form) (signed_decimal b) (tail_of form)))
    ∙ sym (append_assoc (signed_decimal a) ((mark_of form ∷ after_mark form) ++ signed_decimal b) (tail_of form)))

-- the text between head and tail consists of the two numbers and what stands between them
middle_is : (form : ToolForm) (signed : Bool) (word middle : List ℕ) (a b : ℤ) → word ≡ head_of form signed ++ (middle ++ tail_of form) → word ≡ numbers_text form signed a b → middle ≡ signed_decimal a ++ ((mark_of form ∷ after_mark form) ++ signed_decimal b)
middle_is form signed word middle a b e is =
    let inner : List ℕ = signed_decimal a ++ ((mark_of form ∷ after_mark form) ++ signed_decimal b) in
    append_cancel_right middle inner (tail_of form) (append_cancel_left (head_of form signed) (middle ++ tail_of form) (inner ++ tail_of form) (sym e ∙ (is ∙ text_middle form signed a b)))

pub no_middle : (form : ToolForm) (signed : Bool) (word : List ℕ) → ((middle : List ℕ) → ¬ (word ≡ head_of form signed ++ (middle ++ tail_of form))) → (a b : ℤ) → word ≡ numbers_text form signed a b → ⊥
no_middle form signed word none a b is = none (signed_decimal a ++ ((mark_of form ∷ after_mark form) ++ signed_decimal b)) (is ∙ text_middle form signed a b)

pub no_mark : (form : ToolForm) (signed : Bool) (word middle : List ℕ) (a b : ℤ) → word ≡ head_of form signed ++ (middle ++ tail_of form) → count_of (mark_of form) middle ≡ 0 → word ≡ numbers_text form signed a b → ⊥
no_mark form signed word middle a b e none is =
    split_has_one (mark_of form) middle (signed_decimal a) (after_mark form ++ signed_decimal b) (middle_is form signed word middle a b e is) none

pub halves_are : (form : ToolForm) (signed : Bool) (word middle before after : List ℕ) (a b : ℤ) → word ≡ head_of form signed ++ (middle ++ tail_of form) → IsSplit (mark_of form) middle before after → IsSmall a → word ≡ numbers_text form signed a b → (before ≡ signed_decimal a) × (after ≡ after_mark form ++ signed_decimal b)
halves_are form signed word middle before after a b e split small is = parts_are form middle before after a b small split (middle_is form signed word middle a b e is)

pub second_is : (form : ToolForm) (signed : Bool) (word middle before after second : List ℕ) (a b : ℤ) → word ≡ head_of form signed ++ (middle ++ tail_of form) → IsSplit (mark_of form) middle before after → IsSmall a → word ≡ numbers_text form signed a b → after ≡ after_mark form ++ second → second ≡ signed_decimal b
second_is form signed word middle before after second a b e split small is found =
    append_cancel_left (after_mark form) second (signed_decimal b) (sym found ∙ (halves_are form signed word middle before after a b e split small is).1)

pub numbers_are : (form : ToolForm) (signed : Bool) (word middle before after second : List ℕ) (a b : ℤ) → word ≡ head_of form signed ++ (middle ++ tail_of form) → IsSplit (mark_of form) middle before after → after ≡ after_mark form ++ second → before ≡ signed_decimal a → second ≡ signed_decimal b → word ≡ numbers_text form signed a b
numbers_are form signed word middle before after second a b e split found first last =
    let back : after ≡ after_mark form ++ signed_decimal b = found ∙ ap (λ l. after_mark form ++ l) last in
    let inner : middle ≡ signed_decimal a ++ ((mark_of form ∷ after_mark form) ++ signed_decimal b) = split.split ∙ (ap (λ l. l ++ mark_of form ∷ after) first ∙ ap (λ l. signed_decimal a ++ mark_of form ∷ l) back) in
    e ∙ (ap (λ m. head_of form signed ++ (m ++ tail_of form)) inner ∙ sym (text_middle form signed a b))

-- ---- a text determines its two numbers
pub pair_same : (form : ToolForm) (signed : Bool) (a b c d : ℤ) → IsSmall a → IsSmall b → IsSmall c → IsSmall d → numbers_text form signed a b ≡ numbers_text form signed c d → (a ≡ c) × (b ≡ d)
unfolding pair_text
pair_same form signed a b c d p q r s e =
    let rest = append_cancel_left (head_of form signed) (signed_decimal a ++ ((mark_of form ∷ after_mark form) ++ (signed_decimal b ++ tail_of form))) (signed_decimal c ++ ((mark_of form ∷ after_mark form) ++ (signed_decimal d ++ tail_of form))) e in
    let one = same_split (mark_of form) (signed_decimal a) (signed_decimal c) (after_mark form ++ (signed_decimal b ++ tail_of form)) (after_mark form ++ (signed_decimal d ++ tail_of form)) rest (no_mark_in form a p) (no_mark_in form c r) in
    let last = append_cancel_right (signed_decimal b) (signed_decimal d) (tail_of form) (append_cancel_left (after_mark form) (signed_decimal b ++ tail_of form) (signed_decimal d ++ tail_of form) one.after) in
    (signed_decimal_injective a c (size a p) (size c r) one.before, signed_decimal_injective b d (size b q) (size d s) last)
  where
    size : (z : ℤ) → IsSmall z → mag z < 2 ^ 63
    size (pos n) small = omega (arith, ints, small.below)
    size (negsuc n) small = omega (arith, ints, small.above)

-- ---- the form of a text by its first byte and its blanks
abbrev blanks_of : ToolForm → ℕ
blanks_of Hls = 0
blanks_of HlsSpaced = 1
blanks_of Vhdl = 2
blanks_of Fi = 0
blanks_of FiSpaced = 3
blanks_of NumericType = 0
blanks_of NumericTypeSpaced = 2
blanks_of Simulink = 0

form_at : ℕ → ℕ → ToolForm
form_at first blanks = if first == 97 then (if blanks == 0 then Hls else HlsSpaced) else if first == 102 then (if blanks == 0 then Fi else FiSpaced)
    else if first == 110 then (if blanks == 0 then NumericType else NumericTypeSpaced) else if blanks == 0 then Simulink else Vhdl

form_back : (form : ToolForm) (signed : Bool) → form_at (get_or (head_of form signed) 0 0) (blanks_of form) ≡ form
unfolding form_at
form_back Hls true = refl
form_back Hls false = refl
form_back HlsSpaced true = refl
form_back HlsSpaced false = refl
form_back Vhdl true = refl
form_back Vhdl false = refl
form_back Fi true = refl
form_back Fi false = refl
form_back FiSpaced true = refl
form_back FiSpaced false = refl
form_back NumericType true = refl
form_back NumericType false = refl
form_back NumericTypeSpaced true = refl
form_back NumericTypeSpaced false = refl
form_back Simulink true = refl
form_back Simulink false = refl

fixed_blanks : (form : ToolForm) (signed : Bool) → count_of 32 (head_of form signed) + (count_of 32 (mark_of form ∷ after_mark form) + count_of 32 (tail_of form)) ≡ blanks_of form
fixed_blanks Hls true = refl
fixed_blanks Hls false = refl
fixed_blanks HlsSpaced true = refl
fixed_blanks HlsSpaced false = refl
fixed_blanks Vhdl true = refl
fixed_blanks Vhdl false = refl
fixed_blanks Fi true = refl
fixed_blanks Fi false = refl
fixed_blanks FiSpaced true = refl
fixed_blanks FiSpaced false = refl
fixed_blanks NumericType true = refl
fixed_blanks NumericType false = refl
fixed_blanks NumericTypeSpaced true = refl
fixed_blanks NumericTypeSpaced false = refl
fixed_blanks Simulink true = refl
fixed_blanks Simulink false = refl

blanks_are : (form : ToolForm) (signed : Bool) (a b : ℤ) → IsSmall a → IsSmall b → count_of 32 (numbers_text form signed a b) ≡ blanks_of form
unfolding pair_text
blanks_are form signed a b p q =
    let none = number_without 32 a (inl (omega arith)) refl refl p in
    let none' = number_without 32 b (inl (omega arith)) refl refl q in
    let head = count-append 32 (head_of form signed) (signed_decimal a ++ ((mark_of form ∷ after_mark form) ++ (signed_decimal b ++ tail_of form))) in
    let first = count-append 32 (signed_decimal a) ((mark_of form ∷ after_mark form) ++ (signed_decimal b ++ tail_of form)) in
    let mark = count-append 32 (mark_of form ∷ after_mark form) (signed_decimal b ++ tail_of form) in
    let second = count-append 32 (signed_decimal b) (tail_of form) in
    omega (arith, none, none', head, first, mark, second, fixed_blanks form signed)

first_byte : (form : ToolForm) (signed : Bool) (a b : ℤ) → get_or (numbers_text form signed a b) 0 0 ≡ get_or (head_of form signed) 0 0
unfolding pair_text
first_byte Hls true a b = refl
first_byte Hls false a b = refl
first_byte HlsSpaced true a b = refl
first_byte HlsSpaced false a b = refl
first_byte Vhdl true a b = refl
first_byte Vhdl false a b = refl
first_byte Fi true a b = refl
first_byte Fi false a b = refl
first_byte FiSpaced true a b = refl
first_byte FiSpaced false a b = refl
first_byte NumericType true a b = refl
first_byte NumericType false a b = refl
first_byte NumericTypeSpaced true a b = refl
first_byte NumericTypeSpaced false a b = refl
first_byte Simulink true a b = refl
first_byte Simulink false a b = refl

form_is : (form : ToolForm) (signed : Bool) (a b : ℤ) → IsSmall a → IsSmall b → form_at (get_or (numbers_text form signed a b) 0 0) (count_of 32 (numbers_text form signed a b)) ≡ form
form_is form signed a b p q =
    ap (λ n. form_at n (count_of 32 (numbers_text form signed a b))) (first_byte form signed a b)
    ∙ (ap (form_at (get_or (head_of form signed) 0 0)) (blanks_are form signed a b p q) ∙ form_back form signed)

-- ---- the sign rule of a text by one byte
sign_at : ToolForm → List ℕ → Bool
sign_at Hls word = get_or word 3 0 == 102
sign_at HlsSpaced word = get_or word 3 0 == 102
sign_at Vhdl word = get_or word 0 0 == 115
sign_at Fi word = get_or word 5 0 == 49
sign_at FiSpaced word = get_or word 6 0 == 49
sign_at NumericType word = get_or word 12 0 == 49
sign_at NumericTypeSpaced word = get_or word 12 0 == 49
sign_at Simulink word = get_or word 0 0 == 115

sign_is : (form : ToolForm) (signed : Bool) (a b : ℤ) → sign_at form (numbers_text form signed a b) ≡ signed
unfolding sign_at pair_text
sign_is Hls true a b = refl
sign_is Hls false a b = refl
sign_is HlsSpaced true a b = refl
sign_is HlsSpaced false a b = refl
sign_is Vhdl true a b = refl
sign_is Vhdl false a b = refl
sign_is Fi true a b = refl
sign_is Fi false a b = refl
sign_is FiSpaced true a b = refl
sign_is FiSpaced false a b = refl
sign_is NumericType true a b = refl
sign_is NumericType false a b = refl
sign_is NumericTypeSpaced true a b = refl
sign_is NumericTypeSpaced false a b = refl
sign_is Simulink true a b = refl
sign_is Simulink false a b = refl

-- ---- a format by its numbers
numbers_small : (form : ToolForm) (f : FormatParts) → IsFormat f.width f.frac → IsSmall (first_of form f) × IsSmall (second_of form f)
numbers_small Hls f is = let most = is.is_width.most in let within = is.within in (record { above = omega (arith, ints); below = omega (arith, ints) }, record { above = omega (arith, ints); below = omega (arith, ints) })
numbers_small HlsSpaced f is = let most = is.is_width.most in let within = is.within in (record { above = omega (arith, ints); below = omega (arith, ints) }, record { above = omega (arith, ints); below = omega (arith, ints) })
numbers_small Vhdl f is = let most = is.is_width.most in let within = is.within in (record { above = omega (arith, ints); below = omega (arith, ints) }, record { above = omega (arith, ints); below = omega (arith, ints) })
numbers_small Fi f is = let most = is.is_width.most in let within = is.within in (record { above = omega (arith, ints); below = omega (arith, ints) }, record { above = omega (arith, ints); below = omega (arith, ints) })
numbers_small FiSpaced f is = let most = is.is_width.most in let within = is.within in (record { above = omega (arith, ints); below = omega (arith, ints) }, record { above = omega (arith, ints); below = omega (arith, ints) })
numbers_small NumericType f is = let most = is.is_width.most in let within = is.within in (record { above = omega (arith, ints); below = omega (arith, ints) }, record { above = omega (arith, ints); below = omega (arith, ints) })
numbers_small NumericTypeSpaced f is = let most = is.is_width.most in let within = is.within in (record { above = omega (arith, ints); below = omega (arith, ints) }, record { above = omega (arith, ints); below = omega (arith, ints) })
numbers_small Simulink f is = let most = is.is_width.most in let within = is.within in (record { above = omega (arith, ints); below = omega (arith, ints) }, record { above = omega (arith, ints); below = omega (arith, ints) })

counts_same : (form : ToolForm) (f g : FormatParts) → first_of form f ≡ first_of form g → second_of form f ≡ second_of form g → (f.width ≡ g.width) × (f.frac ≡ g.frac)
counts_same Hls f g a b = (omega (arith, ints, a, b), omega (arith, ints, a, b))
counts_same HlsSpaced f g a b = (omega (arith, ints, a, b), omega (arith, ints, a, b))
counts_same Vhdl f g a b = (omega (arith, ints, a, b), omega (arith, ints, a, b))
counts_same Fi f g a b = (omega (arith, ints, a, b), omega (arith, ints, a, b))
counts_same FiSpaced f g a b = (omega (arith, ints, a, b), omega (arith, ints, a, b))
counts_same NumericType f g a b = (omega (arith, ints, a, b), omega (arith, ints, a, b))
counts_same NumericTypeSpaced f g a b = (omega (arith, ints, a, b), omega (arith, ints, a, b))
counts_same Simulink f g a b = (omega (arith, ints, a, b), omega (arith, ints, a, b))

-- ---- a format and its numbers
text_is : (form : ToolForm) (f : FormatParts) → tool_text form f ≡ numbers_text form f.signed (first_of form f) (second_of form f)
text_is Hls f = refl
text_is HlsSpaced f = refl
text_is Vhdl f = refl
text_is Fi f = refl
text_is FiSpaced f = refl
text_is NumericType f = refl
text_is NumericTypeSpaced f = refl
text_is Simulink f = refl

numbers_name : (form : ToolForm) (signed : Bool) (word : List ℕ) (a b : ℤ) → word ≡ numbers_text form signed a b → (f : FormatParts) → HasNumbers form signed a b f → IsNamedIn form signed word f
numbers_name form signed word a b is f has = record {
  format = has.format;
  signed_is = has.signed_is;
  text = is ∙ (ap (λ s. numbers_text form s a b) (sym has.signed_is) ∙ (ap (λ z. numbers_text form f.signed z b) has.first ∙ (ap (λ z. numbers_text form f.signed (first_of form f) z) has.second ∙ sym (text_is form f))));
}

name_numbers : (form : ToolForm) (signed : Bool) (word : List ℕ) (a b : ℤ) → IsSmall a → IsSmall b → word ≡ numbers_text form signed a b → (f : FormatParts) → IsNamedIn form signed word f → HasNumbers form signed a b f
name_numbers form signed word a b p q is f named =
    let small = numbers_small form f named.format in
    let text : word ≡ numbers_text form signed (first_of form f) (second_of form f) = named.text ∙ (text_is form f ∙ ap (λ s. numbers_text form s (first_of form f) (second_of form f)) named.signed_is) in
    let same = pair_same form signed a b (first_of form f) (second_of form f) p q small.0 small.1 (sym is ∙ text) in
    record { format = named.format; signed_is = named.signed_is; first = same.0; second = same.1 }

pub name_found : (form : ToolForm) (signed : Bool) (word : List ℕ) (a b : ℤ) (o : Option FormatParts) → IsSmall a → IsSmall b → word ≡ numbers_text form signed a b → MatchOption o ((f : FormatParts) → ¬ HasNumbers form signed a b f) (λ f. HasNumbers form signed a b f) → MatchOption o ((f : FormatParts) → ¬ IsNamedIn form signed word f) (λ f. IsNamedIn form signed word f)
name_found form signed word a b o p q is found = carried (HasNumbers form signed a b) (IsNamedIn form signed word) o (numbers_name form signed word a b is) (name_numbers form signed word a b p q is) found

pub no_name : (form : ToolForm) (signed : Bool) (word : List ℕ) → ((a b : ℤ) → IsSmall a → IsSmall b → ¬ (word ≡ numbers_text form signed a b)) → (f : FormatParts) → IsNamedIn form signed word f → ⊥
no_name form signed word none f named =
    let small = numbers_small form f named.format in
    none (first_of form f) (second_of form f) small.0 small.1 (named.text ∙ (text_is form f ∙ ap (λ s. numbers_text form s (first_of form f) (second_of form f)) named.signed_is))

-- ---- a name with a width only
whole_text_is : (signed : Bool) (word digits : List ℕ) (w : ℕ) (f : FormatParts) → word ≡ sign_text signed (codes "sfix") (codes "ufix") ++ digits → w < 100 → digits ≡ decimal w → IsWholeIn signed word f → f.width ≡ w
whole_text_is signed word digits w f is few digits_are named =
    let text : word ≡ sign_text signed (codes "sfix") (codes "ufix") ++ decimal f.width = named.named.text ∙ ap (λ s. sign_text s (codes "sfix") (codes "ufix") ++ decimal f.width) named.signed_is in
    let same : digits ≡ decimal f.width = append_cancel_left (sign_text signed (codes "sfix") (codes "ufix")) digits (decimal f.width) (sym is ∙ text) in
    decimal_injective f.width w (omega (arith, named.format.is_width.most)) (omega (arith, few)) (sym same ∙ digits_are)

pub whole_found : (signed : Bool) (word digits : List ℕ) (w : ℕ) (o : Option FormatParts) → word ≡ sign_text signed (codes "sfix") (codes "ufix") ++ digits → w < 100 → digits ≡ decimal w → IsSome o ↔ IsFormat w 0 → IfSome o (λ f. (f.signed ≡ signed) × (f.width ≡ w) × (f.frac ≡ 0)) → MatchOption o ((f : FormatParts) → ¬ IsWholeIn signed word f) (λ f. IsWholeIn signed word f)
whole_found signed word digits w None is few digits_are exists parts = λ f named.
    let width = whole_text_is signed word digits w f is few digits_are named in
    false≢true (exists.1 (subst (λ n. IsFormat n 0) width (subst (λ n. IsFormat f.width n) named.named.whole named.format)))
whole_found signed word digits w (Some f) is few digits_are exists parts = record {
  format = subst (λ n. IsFormat n f.frac) (sym parts.1) (subst (λ n. IsFormat w n) (sym parts.2) (exists.0 refl));
  signed_is = parts.0;
  named = record {
    whole = parts.2;
    text = is ∙ (ap (λ l. sign_text signed (codes "sfix") (codes "ufix") ++ l) (digits_are ∙ ap decimal (sym parts.1)) ∙ ap (λ s. sign_text s (codes "sfix") (codes "ufix") ++ decimal f.width) (sym parts.0));
  };
}

-- ---- a word names at most one format
forms_same : (word : List ℕ) (f g : FormatParts) → IsFormat f.width f.frac → IsFormat g.width g.frac → IsFormName word f → IsFormName word g → f ≡ g
forms_same word f g is is' x y =
    let p = numbers_small x.form f is in
    let q = numbers_small y.form g is' in
    let one : word ≡ numbers_text x.form f.signed (first_of x.form f) (second_of x.form f) = x.text ∙ text_is x.form f in
    let other : word ≡ numbers_text y.form g.signed (first_of y.form g) (second_of y.form g) = y.text ∙ text_is y.form g in
    let at : List ℕ → ToolForm = λ w. form_at (get_or w 0 0) (count_of 32 w) in
    let form : x.form ≡ y.form = sym (form_is x.form f.signed (first_of x.form f) (second_of x.form f) p.0 p.1) ∙ (ap at (sym one ∙ other) ∙ form_is y.form g.signed (first_of y.form g) (second_of y.form g) q.0 q.1) in
    let text : word ≡ numbers_text x.form g.signed (first_of x.form g) (second_of x.form g) = subst (λ k. word ≡ numbers_text k g.signed (first_of k g) (second_of k g)) (sym form) other in
    let r = numbers_small x.form g is' in
    let signed : f.signed ≡ g.signed = sym (sign_is x.form f.signed (first_of x.form f) (second_of x.form f)) ∙ (ap (sign_at x.form) (sym one ∙ text) ∙ sign_is x.form g.signed (first_of x.form g) (second_of x.form g)) in
    let both : numbers_text x.form f.signed (first_of x.form f) (second_of x.form f) ≡ numbers_text x.form f.signed (first_of x.form g) (second_of x.form g) = sym one ∙ (text ∙ ap (λ s. numbers_text x.form s (first_of x.form g) (second_of x.form g)) (sym signed)) in
    let numbers = pair_same x.form f.signed (first_of x.form f) (second_of x.form f) (first_of x.form g) (second_of x.form g) p.0 p.1 r.0 r.1 both in
    let counts = counts_same x.form f g numbers.0 numbers.1 in
    λ i. record { signed = signed i; width = counts.0 i; frac = counts.1 i }

fix_without : (form : ToolForm) (signed : Bool) → count_of (mark_of form) (sign_text signed (codes "sfix") (codes "ufix")) ≡ 0
fix_without form true = (mark_other form).no_signed
fix_without form false = (mark_other form).no_unsigned

form_or_whole : (word : List ℕ) (f g : FormatParts) → IsFormat g.width g.frac → IsFormName word f → IsWholeName word g → ⊥
unfolding pair_text
form_or_whole word f g is x y =
    let mark : ℕ = mark_of x.form in
    let head : List ℕ = head_of x.form f.signed in
    let first : List ℕ = signed_decimal (first_of x.form f) in
    let rest : List ℕ = after_mark x.form ++ (signed_decimal (second_of x.form f) ++ tail_of x.form) in
    let text : word ≡ (head ++ first) ++ mark ∷ rest = x.text ∙ (text_is x.form f ∙ sym (append_assoc head first (mark ∷ rest))) in
    let fix : List ℕ = sign_text g.signed (codes "sfix") (codes "ufix") in
    let digits : count_of mark (decimal g.width) ≡ 0 = decimal_without mark g.width (mark_other x.form).other (omega (arith, is.is_width.most)) in
    split_has_one mark word (head ++ first) rest text (omega (arith, ap (count_of mark) y.text, count-append mark fix (decimal g.width), fix_without x.form g.signed, digits))

fix_sign : (s t : Bool) (xs ys : List ℕ) → sign_text s (codes "sfix") (codes "ufix") ++ xs ≡ sign_text t (codes "sfix") (codes "ufix") ++ ys → s ≡ t
fix_sign true true xs ys e = refl
fix_sign false false xs ys e = refl
fix_sign true false xs ys e = absurd (omega (arith, ap (λ w. get_or w 0 0) e))
fix_sign false true xs ys e = absurd (omega (arith, ap (λ w. get_or w 0 0) e))

wholes_same : (word : List ℕ) (f g : FormatParts) → IsFormat f.width f.frac → IsFormat g.width g.frac → IsWholeName word f → IsWholeName word g → f ≡ g
wholes_same word f g is is' x y =
    let fix : Bool → List ℕ = λ s. sign_text s (codes "sfix") (codes "ufix") in
    let both : fix f.signed ++ decimal f.width ≡ fix g.signed ++ decimal g.width = sym x.text ∙ y.text in
    let signed : f.signed ≡ g.signed = fix_sign f.signed g.signed (decimal f.width) (decimal g.width) both in
    let digits : decimal f.width ≡ decimal g.width = append_cancel_left (fix f.signed) (decimal f.width) (decimal g.width) (both ∙ ap (λ s. fix s ++ decimal g.width) (sym signed)) in
    let width : f.width ≡ g.width = decimal_injective f.width g.width (omega (arith, is.is_width.most)) (omega (arith, is'.is_width.most)) digits in
    let frac : f.frac ≡ g.frac = x.whole ∙ sym y.whole in
    λ i. record { signed = signed i; width = width i; frac = frac i }

tools_same : (word : List ℕ) (f g : FormatParts) → IsFormat f.width f.frac → IsFormat g.width g.frac → IsFormName word f ⊎ IsWholeName word f → IsFormName word g ⊎ IsWholeName word g → f ≡ g
tools_same word f g is is' (inl x) (inl y) = forms_same word f g is is' x y
tools_same word f g is is' (inl x) (inr y) = absurd (form_or_whole word f g is' x y)
tools_same word f g is is' (inr x) (inl y) = absurd (form_or_whole word g f is y x)
tools_same word f g is is' (inr x) (inr y) = wholes_same word f g is is' x y

pub tool_one : ToolNameIsTheOne
tool_one word f g x y = tools_same word f g x.format y.format x.named y.named

-- ---- no name of another tool begins like one of fixed_respell
record IsApart (first second : ℕ) : Type 0 where
  no_i : IsLetter 73 first → ⊥
  no_q : IsLetter 81 first → ⊥
  after_u : IsLetter 85 first → second ≡ 102

no_letter : (capital b : ℕ) → eqb b capital ≡ false → eqb b (capital + 32) ≡ false → IsLetter capital b → ⊥
no_letter capital b other small (inl e) = false≢true (sym other ∙ eq-eqb b capital e)
no_letter capital b other small (inr e) = false≢true (sym small ∙ eq-eqb b (capital + 32) e)

apart_a : IsApart 97 112
apart_a = record { no_i = no_letter 73 97 refl refl; no_q = no_letter 81 97 refl refl; after_u = λ l. absurd (no_letter 85 97 refl refl l) }

apart_f : IsApart 102 105
apart_f = record { no_i = no_letter 73 102 refl refl; no_q = no_letter 81 102 refl refl; after_u = λ l. absurd (no_letter 85 102 refl refl l) }

apart_n : IsApart 110 117
apart_n = record { no_i = no_letter 73 110 refl refl; no_q = no_letter 81 110 refl refl; after_u = λ l. absurd (no_letter 85 110 refl refl l) }

apart_s : IsApart 115 102
apart_s = record { no_i = no_letter 73 115 refl refl; no_q = no_letter 81 115 refl refl; after_u = λ l. absurd (no_letter 85 115 refl refl l) }

apart_u : IsApart 117 102
apart_u = record { no_i = no_letter 73 117 refl refl; no_q = no_letter 81 117 refl refl; after_u = λ l. refl }

numbers_apart : (form : ToolForm) (signed : Bool) (a b : ℤ) → IsApart (get_or (numbers_text form signed a b) 0 0) (get_or (numbers_text form signed a b) 1 0)
unfolding pair_text
numbers_apart Hls true a b = apart_a
numbers_apart Hls false a b = apart_a
numbers_apart HlsSpaced true a b = apart_a
numbers_apart HlsSpaced false a b = apart_a
numbers_apart Vhdl true a b = apart_s
numbers_apart Vhdl false a b = apart_u
numbers_apart Fi true a b = apart_f
numbers_apart Fi false a b = apart_f
numbers_apart FiSpaced true a b = apart_f
numbers_apart FiSpaced false a b = apart_f
numbers_apart NumericType true a b = apart_n
numbers_apart NumericType false a b = apart_n
numbers_apart NumericTypeSpaced true a b = apart_n
numbers_apart NumericTypeSpaced false a b = apart_n
numbers_apart Simulink true a b = apart_s
numbers_apart Simulink false a b = apart_u

whole_apart : (signed : Bool) (digits : List ℕ) → IsApart (get_or (sign_text signed (codes "sfix") (codes "ufix") ++ digits) 0 0) (get_or (sign_text signed (codes "sfix") (codes "ufix") ++ digits) 1 0)
whole_apart true digits = apart_s
whole_apart false digits = apart_u

tool_apart : (word : List ℕ) (f : FormatParts) → IsFormName word f ⊎ IsWholeName word f → IsApart (get_or word 0 0) (get_or word 1 0)
tool_apart word f (inl x) = subst (λ w. IsApart (get_or w 0 0) (get_or w 1 0)) (sym (x.text ∙ text_is x.form f)) (numbers_apart x.form f.signed (first_of x.form f) (second_of x.form f))
tool_apart word f (inr x) = subst (λ w. IsApart (get_or w 0 0) (get_or w 1 0)) (sym x.text) (whole_apart f.signed (decimal f.width))

digits_begin : (ds rest : List ℕ) → 0 < length ds → AllDigits 10 ds → get_or (ds ++ rest) 0 0 ≡ 102 → ⊥
digits_begin [] rest some digits e = omega (arith, some)
digits_begin (d ∷ ds) rest some digits e = let is = digit_from_value d digits.0 in omega (arith, is.1, e)

signed_begin : (z : ℤ) (rest : List ℕ) → mag z ≤ 64 → get_or (signed_decimal z ++ rest) 0 0 ≡ 102 → ⊥
signed_begin (pos n) rest few e = let is = decimal_is_IsNumeral n (omega (arith, few)) in digits_begin (decimal n) rest is.0.0 is.0.1 e
signed_begin (negsuc n) rest few e = omega (arith, e)

counted_apart : (s : Bool) (word : List ℕ) (mark first : ℕ) (f : FormatParts) → IsFormat f.width f.frac → IsLetter (sign_letter s) first → word ≡ first ∷ counts_text mark f → IsApart (get_or word 0 0) (get_or word 1 0) → ⊥
counted_apart true word mark first f is letter e apart = apart.no_i (subst (λ b. IsLetter 73 b) (sym (ap (λ w. get_or w 0 0) e)) letter)
counted_apart false word mark first f is letter e apart =
    signed_begin (whole_length f) (mark ∷ decimal f.frac) (whole_small f is) (sym (ap (λ w. get_or w 1 0) e) ∙ apart.after_u (subst (λ b. IsLetter 85 b) (sym (ap (λ w. get_or w 0 0) e)) letter))

pointed_apart : (s : Bool) (word head counts : List ℕ) → IsQ s head → word ≡ head ++ counts → IsApart (get_or word 0 0) (get_or word 1 0) → ⊥
pointed_apart true word head counts (q, letter, is) e apart = apart.no_q (subst (λ b. IsLetter 81 b) (sym (ap (λ w. get_or w 0 0) (e ∙ ap (λ h. h ++ counts) is))) letter)
pointed_apart false word head counts (u, q, letter, is_q, is) e apart =
    let text : word ≡ u ∷ q ∷ counts = e ∙ ap (λ h. h ++ counts) is in
    no_letter 81 102 refl refl (subst (λ b. IsLetter 81 b) (sym (ap (λ w. get_or w 1 0) text) ∙ apart.after_u (subst (λ b. IsLetter 85 b) (sym (ap (λ w. get_or w 0 0) text)) letter)) is_q)

format_apart : (word : List ℕ) (f : FormatParts) → IsFormat f.width f.frac → IsCountedName word f ⊎ IsPointedName word f ⊎ IsFractionName word f → IsApart (get_or word 0 0) (get_or word 1 0) → ⊥
format_apart word f is (inl x) apart = counted_apart f.signed word x.mark x.sign f is x.is_sign x.text apart
format_apart word f is (inr (inl x)) apart = pointed_apart f.signed word x.head (counts_text point f) x.is_head x.text apart
format_apart word f is (inr (inr x)) apart = apart.no_q (subst (λ b. IsLetter 81 b) (sym (ap (λ w. get_or w 0 0) x.text)) x.is_q)

format_or_tool : (word : List ℕ) (f g : FormatParts) → IsFormatName word f → IsToolName word g → ⊥
format_or_tool word f g x y = format_apart word f x.format x.named (tool_apart word g y.named)

pub names_one : NameIsTheOne
names_one word f g (inl x) (inl y) = name_one word f g x y
names_one word f g (inl x) (inr y) = absurd (format_or_tool word f g x y)
names_one word f g (inr x) (inl y) = absurd (format_or_tool word g f y x)
names_one word f g (inr x) (inr y) = tool_one word f g x y
