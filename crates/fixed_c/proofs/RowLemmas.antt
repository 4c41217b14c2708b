-- Numbers, codes and texts in rows, row by row.
use Rattle.std.proofs.Common.{Bool, true, false, ◌≡◌, ◌≢◌, ◌∙◌, ◌+◌, ◌*◌, ◌<◌, ◌≤◌, ◌==◌, if◌then◌else◌, ℕ, List, [], ◌∷◌, ◌++◌, length, take, drop, set, get_or, ◌-◌, ⊎_elim, subst, refl, sym, ap, arith, add-one, add_assoc, below_more, get_or-set_other, get_or-set_same}
use borrow.Rule.Slice.PartMut.{put_mid}
use Rattle.std.proofs.lemmas.Bool.{cases_lt}
use Rattle.std.proofs.lemmas.List.{drop-take, length-take, take-take}
use Rattle.std.proofs.lemmas.Slice.{between-put_mid, drop-put_mid, take-put_mid_below}
use Rattle.std.proofs.Math.Nat.{mul-le-mul_left}
use Rattle.std.proofs.Math.Seq.{take-suc-set}
use Rattle.fixed_c.specs.Rows.{before_zero, refused_of, row_at}
use Rattle.fixed_c.specs.declared.number.FixedNumber.{FixedNumber}

-- ---- the count of codes that are not 0
refused_append : (cs : List ℕ) (c : ℕ) → refused_of (cs ++ c ∷ []) ≡ refused_of cs + (if c == 0 then 0 else 1)
refused_append [] c = omega arith
refused_append (x ∷ cs) c = ap (λ n. (if x == 0 then 0 else 1) + n) (refused_append cs c) ∙ sym (add_assoc (if x == 0 then 0 else 1) (refused_of cs) (if c == 0 then 0 else 1))

pub refused_next : (cs : List ℕ) (i c : ℕ) → i < length cs → refused_of (take (i + 1) (set cs i c)) ≡ refused_of (take i cs) + (if c == 0 then 0 else 1)
refused_next cs i c h = rw (add-one, take-suc-set cs i c h) (refused_append (take i cs) c)

-- ---- one more row
pub row_more : (Row : ℕ → FixedNumber → ℕ → Type 0) (numbers : List FixedNumber) (codes : List ℕ) (i : ℕ) (n : FixedNumber) (c : ℕ) → i < length numbers → i < length codes
    → ((d : FixedNumber) (k : ℕ) → k < i → Row k (get_or numbers k d) (get_or codes k 0)) → Row i n c
    → (d : FixedNumber) (k : ℕ) → k < i + 1 → Row k (get_or (set numbers i n) k d) (get_or (set codes i c) k 0)
row_more Row numbers codes i n c lt less before here d =
    below_more (λ k. Row k (get_or (set numbers i n) k d) (get_or (set codes i c) k 0)) i
    (λ k h. let ne : k ≢ i = omega arith in rw (get_or-set_other numbers i k n d ne, get_or-set_other codes i k c 0 ne) (before d k h))
    (rw (get_or-set_same numbers i n d lt, get_or-set_same codes i c 0 less) here)

-- ---- the place of a row
pub row_fits : (i size count : ℕ) → i < count → i * size + size ≤ size * count
row_fits i size count h = let next : i + 1 ≤ count = omega arith in let most : size * (i + 1) ≤ size * count = mul-le-mul_left size next in omega arith

-- ---- one more text
pub text_more : (Row : ℕ → List ℕ → ℕ → Type 0) (rows new : ℕ → List ℕ) (codes : List ℕ) (i c : ℕ) → i < length codes
    → ((k : ℕ) → k < i → Row k (rows k) (get_or codes k 0)) → ((k : ℕ) → k ≢ i → new k ≡ rows k) → Row i (new i) c
    → (k : ℕ) → k < i + 1 → Row k (new k) (get_or (set codes i c) k 0)
text_more Row rows new codes i c less before others here =
    below_more (λ k. Row k (new k) (get_or (set codes i c) k 0)) i
    (λ k h. let ne : k ≢ i = omega arith in rw (others k ne, get_or-set_other codes i k c 0 ne) (before k h))
    (rw (get_or-set_same codes i c 0 less) here)

-- ---- writing a row keeps the others
pub row_set : (size i : ℕ) (xs ys : List ℕ) → i * size + size ≤ length xs → length ys ≡ size → row_at (put_mid (i * size) size xs ys) size i ≡ ys
row_set size i xs ys h e =
    let n : (i * size + size) - i * size ≡ size = omega arith in
    let within : i * size ≤ length xs = omega arith in
    let same : length ys ≡ (i * size + size) - i * size = omega arith in
    subst (λ (m : ℕ). take m (drop (i * size) (put_mid (i * size) size xs ys)) ≡ ys) n (between-put_mid (i * size) size xs ys (i * size + size) within same)

pub row_other : (size i k : ℕ) (xs ys : List ℕ) → i * size + size ≤ length xs → length ys ≡ size → k ≢ i → row_at (put_mid (i * size) size xs ys) size k ≡ row_at xs size k
row_other size i k xs ys h e ne =
    let within : i * size ≤ length xs = omega arith in
    ⊎_elim
    (λ below.
    let fits = row_fits k size i below in
    let most : k * size + size ≤ i * size = omega arith in
    sym (drop-take (k * size) size (put_mid (i * size) size xs ys)) ∙ ap (λ (t : List ℕ). drop (k * size) t) (take-put_mid_below (i * size) size xs ys (k * size + size) most within) ∙ drop-take (k * size) size xs)
    (λ not_below.
    let above : i < k = omega arith in
    let fits = row_fits i size k above in
    let most : i * size + size ≤ k * size = omega arith in
    ap (λ (t : List ℕ). take size t) (drop-put_mid (i * size) size xs ys (k * size) most within e))
    (cases_lt k i)

-- ---- the bytes before the first zero byte
short_if : (is_zero : Bool) (b : ℕ) (bs : List ℕ) → length (before_zero bs) ≤ length bs → length (if is_zero then [] else b ∷ before_zero bs) ≤ length (b ∷ bs)
short_if true b bs h = omega arith
short_if false b bs h = omega (arith, h)

pub zero_short : (bs : List ℕ) → length (before_zero bs) ≤ length bs
zero_short [] = omega arith
zero_short (b ∷ bs) = short_if (b == 0) b bs (zero_short bs)

taken_if : (is_zero : Bool) (b : ℕ) (bs : List ℕ) → take (length (before_zero bs)) bs ≡ before_zero bs
    → take (length (if is_zero then [] else b ∷ before_zero bs)) (b ∷ bs) ≡ (if is_zero then [] else b ∷ before_zero bs)
taken_if true b bs h = refl
taken_if false b bs h = ap (λ (t : List ℕ). b ∷ t) h

pub zero_taken : (bs : List ℕ) → take (length (before_zero bs)) bs ≡ before_zero bs
zero_taken [] = refl
zero_taken (b ∷ bs) = taken_if (b == 0) b bs (zero_taken bs)

-- the text of a row, by its place in the rows
pub text_there : (rows : List ℕ) (start size : ℕ) → drop start (take (start + length (before_zero (take size (drop start rows)))) rows) ≡ before_zero (take size (drop start rows))
text_there rows start size =
    let row : List ℕ = take size (drop start rows) in
    let n : ℕ = length (before_zero row) in
    let few : n ≤ size = omega (arith, zero_short row, length-take size (drop start rows)) in
    drop-take start n rows ∙ sym (take-take n size (drop start rows) few) ∙ zero_taken row
