-- Calls over rows, and calls for the name of a format, have at most one end.
use Rattle.std.proofs.Common.{◌≡◌, ◌∙◌, ◌+◌, ◌*◌, ◌/◌, ◌%◌, ◌<◌, ℕ, zero, suc, ℤ, pos, List, length, drop, get_or, slice_index, slice_index_or, inl, inr, sym, ap, subst, arith, FitsSigned, div-add-mod', mod-lt}
use Rattle.std.proofs.Math.Nat.{div-lt_iff_lt-mul}
use Rattle.std.specs.Int.{w64}
use Rattle.std.proofs.lemmas.List.{ext_get_or, get_or-drop, get_or-take}
use Rattle.fixed_bits.specs.Formats.{FormatParts}
use Rattle.fixed_convert.proofs.Public.{moved_in_is_the_one}
use Rattle.fixed_names.proofs.Public.{name_one}
use Rattle.fixed_c.specs.Codes.{refusal_code}
use Rattle.fixed_c.specs.Laws.{NumberInC}
use Rattle.fixed_c.specs.Numbers.{flag_of}
use Rattle.fixed_c.specs.Outcome.{Never}
use Rattle.fixed_c.specs.RowLaws.{AreInC, ConvertRowsEndOnce, FormatEndsOnce, PrintRowsEndOnce, PutsOnce, ReadRowsEndOnce, RowsEndOnce, WordEndsOnce}
use Rattle.fixed_c.specs.Rows.{AreRows, ConvertsRow, HaveBits, HaveRows, PrintsRow, PutsRow, ReadsRow, no_number, refused_of, row_at, text_of_row}
use Rattle.fixed_c.specs.Words.{FormatIsRefused, IsFormatNamed, IsFormatText, WordIsRefused}
use Rattle.fixed_c.specs.declared.arguments.FixedFormat.{FixedFormat}
use Rattle.fixed_c.specs.declared.number.FixedNumber.{FixedNumber}
use Rattle.fixed_c.specs.declared.refusal.Refusal.{Refusal}
use Rattle.fixed_c.specs.declared.refusal.Refusal.TheVariants.{BadFormat, BadWord}
use Rattle.fixed_c.proofs.EndLemmas.{end_one, puts_one, text_one, unless_none, unless_one}
use Rattle.fixed_c.proofs.LawLemmas.{convert_in_ends_once, print_none, print_refusal, printed_one, read_ends_once}

-- ---- rows of numbers
abbrev OnceAt : (ℕ → FixedNumber → ℕ → Type 0) → ℕ → Type 0
OnceAt Single i = (a b : FixedNumber) (c e : ℕ) → NumberInC a → NumberInC b → Single i a c → Single i b e → (c ≡ e) × (a ≡ b)

module _ (Single : ℕ → FixedNumber → ℕ → Type 0) where
  numbers_one : (old a b : List FixedNumber) (m n : List ℕ) (x y : ℕ) → ((i : ℕ) → i < length old → OnceAt Single i) → AreInC old a → AreInC old b
      → length m ≡ length old → length n ≡ length old → AreRows Single a m x → AreRows Single b n y → (a ≡ b) × (m ≡ n) × (x ≡ y)
  numbers_one old a b m n x y one in_a in_b few more p q =
      let at : (i : ℕ) → i < length old → (slice_index m i ≡ slice_index n i) × (slice_index_or a i no_number ≡ slice_index_or b i no_number) = λ i l.
      one i l (slice_index_or a i no_number) (slice_index_or b i no_number) (slice_index m i) (slice_index n i)
      (in_a.each no_number i (omega (arith, l, in_a.as_many))) (in_b.each no_number i (omega (arith, l, in_b.as_many)))
      (p.each no_number i (omega (arith, l, few))) (q.each no_number i (omega (arith, l, more))) in
      let codes : m ≡ n = ext_get_or 0 m n (few ∙ sym more) (λ i l. (at i (omega (arith, l, few))).0) in
      let numbers : a ≡ b = ext_get_or no_number a b (in_a.as_many ∙ sym in_b.as_many) (λ i l. (at i (omega (arith, l, in_a.as_many))).1) in
      (numbers, codes, p.counted ∙ ap refused_of codes ∙ sym q.counted)

  rows_one : (Fit : Type 0) (old : List FixedNumber) (olds : List ℕ) → (Fit → length old ≡ length olds)
      → (Fit → (i : ℕ) → i < length old → OnceAt Single i) → RowsEndOnce Fit Single old olds
  rows_one Fit old olds same one a b m n count x y code other in_a in_b few more (inl p) (inl q) =
      let s = same p.0 in
      let all = numbers_one old a b m n x y (one p.0) in_a in_b (few ∙ sym s) (more ∙ sym s) p.2 q.2 in
      (p.1 ∙ sym q.1, all.0, all.1, all.2)
  rows_one Fit old olds same one a b m n count x y code other in_a in_b few more (inl p) (inr q) = absurd (q.0 p.0)
  rows_one Fit old olds same one a b m n count x y code other in_a in_b few more (inr p) (inl q) = absurd (p.0 q.0)
  rows_one Fit old olds same one a b m n count x y code other in_a in_b few more (inr p) (inr q) =
      (p.1 ∙ sym q.1, p.2 ∙ sym q.2, p.3 ∙ sym q.3, p.4 ∙ sym q.4)

pub read_rows_once : ReadRowsEndOnce
read_rows_once rows size radix f policy mode old olds =
    rows_one (ReadsRow rows size radix f policy mode) (HaveRows rows size old olds) old olds (λ fit. fit.same)
    (λ fit i l a b c e. read_ends_once (text_of_row rows size i) radix f policy mode no_number a b c e)

pub convert_rows_once : ConvertRowsEndOnce
convert_rows_once bits f g policy mode old olds fits =
    rows_one (ConvertsRow bits f g policy mode) (HaveBits bits old olds) old olds (λ fit. fit.same)
    (λ fit i l a b c e. convert_in_ends_once moved_in_is_the_one f g policy mode (slice_index_or bits i (pos 0)) (fits i (let x = fit.given in let y = fit.same in omega (arith, l, x, y))) no_number a b c e)

-- ---- rows of texts
puts_row_one : (text old a b : List ℕ) (c e : ℕ) → PutsRow text old a c → PutsRow text old b e → (c ≡ e) × (a ≡ b)
puts_row_one text old a b c e (inl p) (inl q) = (p.0 ∙ sym q.0, p.2 ∙ sym q.2)
puts_row_one text old a b c e (inl p) (inr q) = absurd (let h = p.1 in let g = q.1 in omega (arith, h, g))
puts_row_one text old a b c e (inr p) (inl q) = absurd (let h = p.1 in let g = q.1 in omega (arith, h, g))
puts_row_one text old a b c e (inr p) (inr q) = (p.0 ∙ sym q.0, p.2 ∙ sym q.2)

prints_row_one : (f : FormatParts) (bits : ℤ) (old a b : List ℕ) (c e : ℕ) → FitsSigned w64 bits → PrintsRow f bits old a c → PrintsRow f bits old b e → (c ≡ e) × (a ≡ b)
prints_row_one f bits old a b c e fits (inl p) (inl q) =
    puts_row_one p.0 old a b c e p.2 (subst (λ (t : List ℕ). PutsRow t old b e) (printed_one f bits fits q.0 p.0 q.1 p.1) q.2)
prints_row_one f bits old a b c e fits (inl p) (inr q) = absurd (print_none f bits p.1.number q.0 p.1.format p.1.bits_are q.2)
prints_row_one f bits old a b c e fits (inr p) (inl q) = absurd (print_none f bits q.1.number p.0 q.1.format q.1.bits_are p.2)
prints_row_one f bits old a b c e fits (inr p) (inr q) = (p.1 ∙ ap refusal_code (print_refusal f bits p.0 q.0 p.2 q.2) ∙ sym q.1, p.3 ∙ sym q.3)

-- a byte of the rows is a byte of its row
byte_of : (rows : List ℕ) (size k : ℕ) → 0 < size → get_or rows k 0 ≡ get_or (row_at rows size (k / size)) (k % size) 0
byte_of rows size k some =
    let e : k / size * size + k % size ≡ k = div-add-mod' k size in
    sym (get_or-take size (drop (k / size * size) rows) (k % size) 0 (mod-lt k some) ∙ get_or-drop (k / size * size) rows (k % size) 0 ∙ ap (λ j. get_or rows j 0) e)

row_below : (size k n : ℕ) → 0 < size → k < size * n → k / size < n
row_below size k n some l = let m : k < n * size = omega (arith, l) in (div-lt_iff_lt-mul {k = size} {x = k} {y = n} some).1 m

rows_alike : (size n : ℕ) (a b : List ℕ) → length a ≡ size * n → length b ≡ size * n → ((i : ℕ) → i < n → row_at a size i ≡ row_at b size i) → a ≡ b
rows_alike zero n a b p q same = ext_get_or 0 a b (p ∙ sym q) (λ k l. absurd (omega (arith, l, p)))
rows_alike (suc size) n a b p q same =
    ext_get_or 0 a b (p ∙ sym q) (λ k l.
    let m : k < suc size * n = subst (λ (x : ℕ). k < x) p l in
    let s : 0 < suc size = omega arith in
    byte_of a (suc size) k s ∙ ap (λ r. get_or r (k % suc size) 0) (same (k / suc size) (row_below (suc size) k n s m)) ∙ sym (byte_of b (suc size) k s))

pub print_rows_once : PrintRowsEndOnce
print_rows_once f bits size old olds a b m n count x y code other fits la lb lm ln (inl p) (inl q) =
    let fit = p.0 in
    let at : (i : ℕ) → i < length olds → (slice_index m i ≡ slice_index n i) × (row_at a size i ≡ row_at b size i) = λ i l.
    prints_row_one f (slice_index_or bits i (pos 0)) (row_at old size i) (row_at a size i) (row_at b size i) (slice_index m i) (slice_index n i)
    (fits i (let g = fit.given in omega (arith, l, g))) (p.2.each i (omega (arith, l, lm))) (q.2.each i (omega (arith, l, ln))) in
    let codes : m ≡ n = ext_get_or 0 m n (lm ∙ sym ln) (λ i l. (at i (omega (arith, l, lm))).0) in
    let rows : a ≡ b = rows_alike size (length olds) a b (la ∙ fit.bytes) (lb ∙ fit.bytes) (λ i l. (at i l).1) in
    (p.1 ∙ sym q.1, rows, codes, p.2.counted ∙ ap refused_of codes ∙ sym q.2.counted)
print_rows_once f bits size old olds a b m n count x y code other fits la lb lm ln (inl p) (inr q) = absurd (q.0 p.0)
print_rows_once f bits size old olds a b m n count x y code other fits la lb lm ln (inr p) (inl q) = absurd (p.0 q.0)
print_rows_once f bits size old olds a b m n count x y code other fits la lb lm ln (inr p) (inr q) = (p.1 ∙ sym q.1, p.2 ∙ sym q.2, p.3 ∙ sym q.3, p.4 ∙ sym q.4)

pub puts_once : PutsOnce
puts_once = puts_one

-- ---- names of formats
named_made : (a b : FixedFormat) → a.is_signed ≡ b.is_signed → a.width ≡ b.width → a.frac ≡ b.frac → a ≡ b
named_made a b p q r =
    let made : ℕ → ℕ → ℕ → FixedFormat = λ x y z. record { is_signed = x; width = y; frac = z } in
    ap (λ x. made x a.width a.frac) p ∙ ap (λ y. made b.is_signed y a.frac) q ∙ ap (λ z. made b.is_signed b.width z) r

named_one : (word : List ℕ) (a b : FixedFormat) → IsFormatNamed word a → IsFormatNamed word b → a ≡ b
named_one word a b x y =
    let same = name_one word x.format y.format x.word_is y.word_is in
    named_made a b (x.is_signed ∙ ap (λ f. flag_of f.signed) same ∙ sym y.is_signed) (x.width ∙ ap (λ f. f.width) same ∙ sym y.width) (x.frac ∙ ap (λ f. f.frac) same ∙ sym y.frac)

never : (r s : Refusal) → Never r → Never s → r ≡ s
never r s p q = absurd p

pub word_once : WordEndsOnce
word_once word old a b code other fa fb =
    end_one (IsFormatNamed word) (WordIsRefused word) old a b code other (named_one word a b)
    (λ x r named. unless_none _ BadWord Never r (named.format, named.word_is) (λ none. none))
    (λ r s. unless_one _ BadWord Never r s (never r s))

pub format_once : FormatEndsOnce
format_once f old a b len m n code other =
    text_one (λ word. IsFormatText word f) (FormatIsRefused f) old a b len m n code other
    (λ s t p q. p.text ∙ sym q.text)
    (λ t r p. unless_none _ BadFormat Never r p.format (λ none. none))
    (λ r s. unless_one _ BadFormat Never r s (never r s))
