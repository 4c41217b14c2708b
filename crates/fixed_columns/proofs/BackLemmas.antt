-- A written column of decimals reads back as its cells.
use Rattle.std.proofs.Common.{◌≡◌, ◌≤◌, ◌<◌, ◌-◌, ◌==◌, ◌||◌, ℕ, zero, suc, Bool, true, false, IsTrue, cond, List, [], ◌∷◌, ◌++◌, length, get_or, ℤ, refl, sym, ap, ◌∙◌, subst, arith, inl, inr, append_assoc, append-nil, length-append}
use Rattle.std.specs.Prelude.{Option, Some, None, IfSome, All, Contains, option_to_list, decimal}
use Rattle.std.specs.Char.{encode_utf8}
use Rattle.std.specs.Cmp.{unsigned_Decides}
use Rattle.std.specs.Fmt.{sign_text}
use Rattle.std.specs.Int.{is_negative}
use Rattle.std.specs.List.{repeat}
use Rattle.std.specs.Str.Parse.{AllDigits}
use Rattle.std.proofs.lemmas.Bool.{false≢true}
use Rattle.std.proofs.lemmas.Fmt.{decimal_is_IsNumeral}
use Rattle.std.proofs.lemmas.Str.{encode_ascii}
use Rattle.std.proofs.lemmas.Str.Parse.{digit_from_value}
use Rattle.fixed_bits.specs.Formats.{FormatParts, IsTypeFormat}
use Rattle.fixed_numeral.specs.Numeral.{Exponent, HasNumeral, IsExponentOf, Parts, exponent_text, fraction_text, fractional_digits, is_sign}
use Rattle.fixed_numeral.specs.declared.radix.Radix.TheVariants.{Dec}
use Rattle.fixed_laws.specs.Laws.{DefaultTextReadsBack}
use Rattle.fixed_respell.specs.Split.{count_of}
use Rattle.fixed_respell.specs.Words.{format_text, sign_letter}
use Rattle.fixed_bits.proofs.Public.{type_width}
use Rattle.fixed_respell.specs.Lemmas.FormatLemmas.{counts_within}
use Rattle.fixed_respell.specs.Lemmas.SplitLemmas.{count_cons}
use Rattle.fixed_write.specs.Styled.{IsStyledText, padded_text, padding, sign_and_prefix}
use Rattle.fixed_write.specs.Texts.{IsShortestText, decimal_text, point_text}
use Rattle.line_engine.specs.Lines.{lines}
use Rattle.line_engine.specs.LineLaws.{LineComesFirst}
use Rattle.fixed_columns.specs.Answer.{decimal_style}
use Rattle.fixed_columns.specs.Cells.{CellParts, HoldsAsOften, IsCell, times}
use Rattle.fixed_columns.specs.ColumnText.{IsRow}
use Rattle.fixed_columns.specs.Laws.{AnswerReadsBack, ColumnReadsBack}
use Rattle.fixed_columns.specs.Rows.{SpellAll, Spells, after_spaces}
use Rattle.fixed_columns.specs.Lemmas.SortedLemmas.{IsAt, occurs, times_cons, times_head}

-- ---- lists of bytes above a byte
abbrev AreAbove : ℕ → List ℕ → Type 0
AreAbove n [] = Unit {0}
AreAbove n (b ∷ bytes) = (n < b) × AreAbove n bytes

above_append : (n : ℕ) (xs ys : List ℕ) → AreAbove n xs → AreAbove n ys → AreAbove n (xs ++ ys)
above_append n [] ys a b = b
above_append n (x ∷ xs) ys a b = (a.0, above_append n xs ys a.1 b)

above_less : (m n : ℕ) (xs : List ℕ) → m ≤ n → AreAbove n xs → AreAbove m xs
above_less m n [] l a = tt
above_less m n (x ∷ xs) l a = (omega (arith, l, a.0), above_less m n xs l a.1)

above_at : (n : ℕ) (xs : List ℕ) (k d : ℕ) → k < length xs → AreAbove n xs → n < get_or xs k d
above_at n [] k d below a = absurd (omega (arith, below))
above_at n (x ∷ xs) zero d below a = a.0
above_at n (x ∷ xs) (suc k) d below a = above_at n xs k d (omega (arith, below)) a.1

differs : (x b : ℕ) (t : Bool) → (x == b) ≡ t → b < x → (x == b) ≡ false
differs x b true e l = absurd (let same : x ≡ b = (unsigned_Decides x b).0 e in omega (arith, same, l))
differs x b false e l = e

-- bytes above `n` do not contain a byte up to `n`
none_of : (b n : ℕ) (xs : List ℕ) → b ≤ n → AreAbove n xs → count_of b xs ≡ 0
none_of b n [] l a = refl
none_of b n (x ∷ xs) l a =
    let One : Bool → ℕ = λ t. cond t 1 0 in
    let not : (x == b) ≡ false = differs x b (x == b) refl (omega (arith, l, a.0)) in
    omega (arith, count_cons b x xs, ap One not, none_of b n xs l a.1)

no_newline : (xs : List ℕ) → AreAbove 31 xs → Contains xs 10 → ⊥
no_newline xs a (k, below, is) = omega (arith, above_at 31 xs k 10 below a, is)

-- ---- a numeral contains no space
digits_above : (ds : List ℕ) → AllDigits 10 ds → AreAbove 32 ds
digits_above [] h = tt
digits_above (d ∷ ds) h = let r = digit_from_value d h.0 in (omega (arith, r.0), digits_above ds h.1)

is_by : (b c : ℕ) → (b == c) ≡ true → 32 < c → 32 < b
is_by b c e l = let same : b ≡ c = (unsigned_Decides b c).0 e in omega (arith, same, l)

sign_by : (b : ℕ) (s t : Bool) → (b == 43) ≡ s → (b == 45) ≡ t → IsTrue (s || t) → 32 < b
sign_by b true t p q h = is_by b 43 p (omega arith)
sign_by b false true p q h = is_by b 45 q (omega arith)
sign_by b false false p q h = absurd (false≢true h)

separator_by : (b : ℕ) (s t u : Bool) → (b == 101) ≡ s → (b == 69) ≡ t → (b == 64) ≡ u → IsTrue ((s || t || u) || false) → 32 < b
separator_by b true t u p q r h = is_by b 101 p (omega arith)
separator_by b false true u p q r h = is_by b 69 q (omega arith)
separator_by b false false true p q r h = is_by b 64 r (omega arith)
separator_by b false false false p q r h = absurd (false≢true h)

sign_above : (sign : Option ℕ) → IfSome sign (λ b. IsTrue (is_sign b)) → AreAbove 32 (option_to_list sign)
sign_above None h = tt
sign_above (Some b) h = (sign_by b (b == 43) (b == 45) refl refl h, tt)

fraction_above : (fraction : Option (List ℕ)) → IfSome fraction (AllDigits 10) → AreAbove 32 (fraction_text fraction)
fraction_above None h = tt
fraction_above (Some ds) h = (omega arith, digits_above ds h)

exponent_above : (exponent : Option Exponent) → IfSome exponent (IsExponentOf Dec) → AreAbove 32 (exponent_text exponent)
exponent_above None h = tt
exponent_above (Some e) h = (separator_by e.separator (e.separator == 101) (e.separator == 69) (e.separator == 64) refl refl refl h.separator, above_append 32 (option_to_list e.sign) e.digits (sign_above e.sign h.sign) (digits_above e.digits h.digits))

numeral_above : (bytes : List ℕ) (p : Parts) → HasNumeral Dec bytes p → AreAbove 32 bytes
numeral_above bytes p has =
    let parts = has.beginning.parts in
    let A : List ℕ → Type 0 = λ t. AreAbove 32 t in
    subst A (sym has.beginning.text) (above_append 32 (option_to_list p.sign) (p.whole ++ (fraction_text p.fraction ++ exponent_text p.exponent)) (sign_above p.sign parts.sign)
    (above_append 32 p.whole (fraction_text p.fraction ++ exponent_text p.exponent) (digits_above p.whole parts.whole)
    (above_append 32 (fraction_text p.fraction) (exponent_text p.exponent) (fraction_above p.fraction parts.fraction) (exponent_above p.exponent parts.exponent))))

-- a numeral is not empty
some_by : (sign whole : List ℕ) (fraction : Option (List ℕ)) (exponent : List ℕ) → 0 < length (whole ++ fractional_digits fraction) → 0 < length (sign ++ (whole ++ (fraction_text fraction ++ exponent)))
some_by sign whole None exponent h = omega (arith, h, length-append whole [], length-append sign (whole ++ exponent), length-append whole exponent)
some_by sign whole (Some ds) exponent h = omega (arith, length-append sign (whole ++ (fraction_text (Some ds) ++ exponent)), length-append whole (fraction_text (Some ds) ++ exponent), length-append (fraction_text (Some ds)) exponent)

numeral_some : (bytes : List ℕ) (p : Parts) → HasNumeral Dec bytes p → 0 < length bytes
numeral_some bytes p has =
    let P : List ℕ → Type 0 = λ t. 0 < length t in
    subst P (sym has.beginning.text) (some_by (option_to_list p.sign) p.whole p.fraction (exponent_text p.exponent) has.mantissa)

-- ---- the name of a format
decimal_above : (n : ℕ) → n ≤ 64 → AreAbove 32 (decimal n)
decimal_above n l = let is = decimal_is_IsNumeral n (omega (arith, l)) in digits_above (decimal n) is.0.1

letter_above : (s : Bool) → 32 < sign_letter s
letter_above true = omega arith
letter_above false = omega arith

word_above : (f : FormatParts) → IsTypeFormat f.width f.frac → AreAbove 32 (format_text f)
word_above f is =
    let most = (type_width f.width is.is_width).most in
    let within = is.within in
    let counts = above_append 32 (decimal (f.width - f.frac)) (70 ∷ decimal f.frac) (decimal_above (f.width - f.frac) (omega (arith, most))) (omega arith, decimal_above f.frac (omega (arith, most, within))) in
    (letter_above f.signed, subst (AreAbove 32) (sym (counts_within 70 f within)) counts)

-- ---- spaces before a number
spaces : ℕ → List ℕ
spaces n = repeat n (32 ∷ [])

spaces_above : (n : ℕ) → AreAbove 31 (spaces n)
unfolding spaces
spaces_above zero = tt
spaces_above (suc n) = (omega arith, spaces_above n)

spaces_pass : (n : ℕ) (xs : List ℕ) → after_spaces (spaces n ++ xs) ≡ after_spaces xs
unfolding spaces after_spaces
spaces_pass zero xs = refl
spaces_pass (suc n) xs = spaces_pass n xs

stop_at : (xs ys : List ℕ) → 0 < length xs → AreAbove 32 xs → after_spaces (xs ++ ys) ≡ xs ++ ys
unfolding after_spaces
stop_at [] ys some a = absurd (omega (arith, some))
stop_at (x ∷ xs) ys some a = rw (differs x 32 (x == 32) refl a.0) refl

lead_is : (width : ℕ) (negative : Bool) → sign_and_prefix (decimal_style width) negative ≡ sign_text negative
lead_is width true = refl
lead_is width false = refl

padded_is : (width : ℕ) (lead body : List ℕ) → padded_text (decimal_style width) lead body ≡ spaces (padding (decimal_style width) lead body) ++ (lead ++ body)
unfolding padded_text spaces
padded_is width lead body =
    let p : ℕ = padding (decimal_style width) lead body in
    let none : p - p ≡ 0 = omega arith in
    let fill : encode_utf8 32 ≡ 32 ∷ [] = encode_ascii 32 (omega arith) in
    let F : List ℕ → List ℕ = λ e. repeat p e ++ (lead ++ body) in
    rw none (append-nil (F (encode_utf8 32)) ∙ ap F fill)

shortest_is : (negative : Bool) (n k : ℕ) → sign_text negative ++ point_text 10 false k n ≡ decimal_text negative n k
unfolding decimal_text
shortest_is negative n k = refl

-- a number in a column: spaces and its shortest decimal
record IsPadded (c : ℤ) (g : ℕ) (text : List ℕ) : Type 0 where
  count : ℕ
  number : List ℕ
  shortest : IsShortestText c g number
  is : text ≡ spaces count ++ number

padded : (width : ℕ) (c : ℤ) (g : ℕ) (text : List ℕ) → IsStyledText (decimal_style width) c g text → IsPadded c g text
padded width c g text styled =
    let b = styled.is_body in
    let lead : List ℕ = sign_and_prefix (decimal_style width) (is_negative c) in
    record {
      count = padding (decimal_style width) lead styled.body;
      number = lead ++ styled.body;
      shortest = record {
        number = b.number;
        places = b.places;
        shortest = b.shown;
        text_is = ap (λ (t : List ℕ). t ++ styled.body) (lead_is width (is_negative c)) ∙ (ap (λ (t : List ℕ). sign_text (is_negative c) ++ t) b.body_is ∙ shortest_is (is_negative c) b.number b.places);
      };
      is = styled.text_is ∙ padded_is width lead styled.body;
    }

-- ---- a row reads back as its cell
record IsReadBack (c : CellParts) (row : List ℕ) : Type 0 where
  above : AreAbove 31 row
  spells : Spells row c

row_back : DefaultTextReadsBack → (width : ℕ) (c : CellParts) (row : List ℕ) → IsCell c → IsRow (decimal_style width) c row → IsReadBack c row
row_back reads width c row cell is =
    let pad = padded width c.bits c.format.frac is.number is.styled in
    let read = reads c.bits c.format.frac pad.number pad.shortest in
    let word : List ℕ = format_text c.format in
    let above = numeral_above pad.number read.0 read.1 in
    let shape : row ≡ spaces pad.count ++ (pad.number ++ 32 ∷ word) = is.text ∙ (ap (λ (t : List ℕ). t ++ 32 ∷ word) pad.is ∙ append_assoc (spaces pad.count) pad.number (32 ∷ word)) in
    let A : List ℕ → Type 0 = λ t. AreAbove 31 t in
    record {
      above = subst A (sym shape) (above_append 31 (spaces pad.count) (pad.number ++ 32 ∷ word) (spaces_above pad.count) (above_append 31 pad.number (32 ∷ word) (above_less 31 32 pad.number (omega arith) above) (omega arith, above_less 31 32 word (omega arith) (word_above c.format cell.format))));
      spells = record {
        numeral = pad.number;
        word = word;
        fields = record {
          split = ap after_spaces shape ∙ (spaces_pass pad.count (pad.number ++ 32 ∷ word) ∙ stop_at pad.number (32 ∷ word) (numeral_some pad.number read.0 read.1) above);
          first = none_of 32 32 pad.number (omega arith) above;
        };
        format = record { format = cell.format; text = refl };
        bits = record { parts = read.0; has = read.1; read = read.2; in_range = cell.in_range };
      };
    }

pub column_back : DefaultTextReadsBack → LineComesFirst → ColumnReadsBack
column_back reads first width [] text all is = let S : List ℕ → Type 0 = λ t. SpellAll (lines t) [] in subst S (sym is) refl
column_back reads first width (c ∷ cells) text all is =
    let row = row_back reads width c is.0 (all 0 c (omega arith)) is.2 in
    let rest : All IsCell cells = λ k d below. all (suc k) d (omega (arith, below)) in
    let more = column_back reads first width cells is.1 rest is.4 in
    let split : lines text ≡ is.0 ∷ lines is.1 = ap lines is.3 ∙ first is.0 is.1 (no_newline is.0 row.above) in
    let S : List (List ℕ) → Type 0 = λ ls. SpellAll ls (c ∷ cells) in
    subst S (sym split) (c, cells, row.spells, refl, more)

-- ---- the answer reads back as its cells
spelled_cell : (line : List ℕ) (c : CellParts) → Spells line c → IsCell c
spelled_cell line c s = record { format = s.format.format; in_range = s.bits.in_range }

all_by : (c : CellParts) (cells : List CellParts) → IsCell c → All IsCell cells → All IsCell (c ∷ cells)
all_by c cells one all zero d below = one
all_by c cells one all (suc k) d below = all k d (omega (arith, below))

all_cells : (lines : List (List ℕ)) (cells : List CellParts) → SpellAll lines cells → All IsCell cells
all_cells [] cells none = let A : List CellParts → Type 0 = λ t. All IsCell t in let empty : All IsCell [] = λ k d below. absurd (omega (arith, below)) in subst A (sym none) empty
all_cells (l ∷ ls) cells is =
    let A : List CellParts → Type 0 = λ t. All IsCell t in
    subst A (sym is.3) (all_by is.0 is.1 (spelled_cell l is.0 is.2) (all_cells ls is.1 is.4))

counted : (xs : List CellParts) (k : ℕ) (d : CellParts) → k < length xs → 0 < times (get_or xs k d) xs
counted [] k d below = absurd (omega (arith, below))
counted (x ∷ xs) zero d below = omega (arith, times_head x xs)
counted (x ∷ xs) (suc k) d below = omega (arith, times_cons (get_or xs k d) x xs, counted xs k d (omega (arith, below)))

kept : (a b : List CellParts) → HoldsAsOften a b → All IsCell a → All IsCell b
kept a b same all k d below =
    let c : CellParts = get_or b k d in
    let some : 0 < times c a = omega (arith, same c, counted b k d below) in
    let at : IsAt c a = occurs c a some in
    subst IsCell (at.is d) (all at.place d at.below)

pub answer_back : ColumnReadsBack → AnswerReadsBack
answer_back back input answer (inl x) clean = record {
  cells = x.cells;
  are = x.are;
  sorted = x.sorted;
  read = back 24 x.sorted answer.text (kept x.cells x.sorted x.same (all_cells (lines input) x.cells x.are)) x.text;
  same = x.same;
  order = x.order;
}
answer_back back input answer (inr x) clean = absurd (false≢true (sym clean ∙ x.fault))
