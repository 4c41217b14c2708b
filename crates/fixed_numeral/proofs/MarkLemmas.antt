-- Marks of the bytes that are not digits, and the digits at the end of a text.
use Rattle.std.proofs.Common.{◌≡◌, ℕ, zero, suc, ◌+◌, ◌-◌, ◌*◌, ◌/◌, ◌%◌, ◌^◌, ◌<◌, ◌≤◌, inl, inr, ⊎_elim, Bool, true, false, cond, nat_lt, List, [], ◌∷◌, ◌++◌, length, take, drop, get_or, map, replicate, refl, sym, ap, subst, ◌∙◌, arith, length-drop, min, max}
use Rattle.std.specs.Int.{bit_at, w64}
use Rattle.std.specs.Int.Bits.{bit_and}
use Rattle.std.specs.Int.RustNames.{bit_or}
use Rattle.std.specs.Prelude.{◌&&◌}
use Rattle.std.specs.Char.{digit_value}
use Rattle.std.specs.Str.Parse.{AllDigits, digits_value, digits_value_after}
use Rattle.std.specs.Simd.Lanes.{mask_l}
use Rattle.std.proofs.lemmas.Bool.{and_parts, cases_lt}
use Rattle.std.proofs.lemmas.List.{get_or-map, get_or-drop}
use Rattle.std.proofs.lemmas.Nat.{pow-add}
use Rattle.std.proofs.lemmas.Nat.Bits.{bit_at_and, bit_at_or, bit_at-zero, bit_at-trailing_zeros}
use Rattle.std.proofs.lemmas.Simd.{bit_mask_l}
use Rattle.std.proofs.Math.Nat.{div-div-eq-div-mul, div-le_self}
use borrow.Author.Tests.{ltb-false}
use lib.Count.{count_trailing_zeros}
use Rattle.fixed_numeral.specs.Inner.Segments.{HasMarks}
use Rattle.fixed_numeral.proofs.ByteLemmas.{near_zero, near_capital, near_small}

-- ---- a test of each number up to n
abbrev pub all_up_to : (ℕ → Bool) → ℕ → Bool
all_up_to P zero = P 0
all_up_to P (suc n) = P (suc n) && all_up_to P n

pub up_to : (P : ℕ → Bool) (n i : ℕ) → i ≤ n → all_up_to P n ≡ true → P i ≡ true
up_to P zero i l e = let z : i ≡ 0 = omega (arith, l) in subst (λ j. P j ≡ true) (sym z) e
up_to P (suc n) i l e = elim (cases_lt i (suc n)) [
  | inl below ↦ up_to P n i (omega (arith, below)) (and_parts (P (suc n)) (all_up_to P n) e).1
  | inr above ↦ let z : i ≡ suc n = omega (arith, l, above) in subst (λ j. P j ≡ true) (sym z) (and_parts (P (suc n)) (all_up_to P n) e).0
]

-- ---- zeros before digits
pub zeros_are_digits : (b n : ℕ) (ds : List ℕ) → 2 ≤ b → AllDigits b ds → AllDigits b (replicate n 48 ++ ds)
zeros_are_digits b zero ds l h = h
zeros_are_digits b (suc n) ds l h = (omega (arith, l), zeros_are_digits b n ds l h)

pub zeros_spell_nothing : (b n : ℕ) (ds : List ℕ) → digits_value b (replicate n 48 ++ ds) ≡ digits_value b ds
zeros_spell_nothing b zero ds = refl
zeros_spell_nothing b (suc n) ds = let none : 0 * b + 0 ≡ 0 = omega arith in ap (λ i. digits_value_after b i (replicate n 48 ++ ds)) none ∙ zeros_spell_nothing b n ds

-- ---- marks
unmarked : (c : Bool) (x : ℕ) → x ≡ cond c 1 0 → x ≡ 0 → c ≡ false
unmarked true x e z = absurd (omega arith)
unmarked false x e z = refl

pub marked_lanes : (xs : List ℕ) (least most m n k : ℕ) → m ≡ mask_l (map (λ x. nat_lt x least) xs) → n ≡ mask_l (map (λ x. nat_lt most x) xs) → k < length xs → bit_at (bit_or m n) k ≡ 0 → (least ≤ get_or xs k 0) × (get_or xs k 0 ≤ most)
marked_lanes xs least most m n k em en l z =
    let both : max (bit_at m k) (bit_at n k) ≡ 0 = sym (bit_at_or m n k) ∙ z in
    let low : bit_at m k ≡ cond (get_or (map (λ x. nat_lt x least) xs) k false) 1 0 = ap (λ i. bit_at i k) em ∙ bit_mask_l (map (λ x. nat_lt x least) xs) k in
    let high : bit_at n k ≡ cond (get_or (map (λ x. nat_lt most x) xs) k false) 1 0 = ap (λ i. bit_at i k) en ∙ bit_mask_l (map (λ x. nat_lt most x) xs) k in (
      ltb-false (get_or xs k 0) least (sym (get_or-map (λ x. nat_lt x least) xs k 0 false l) ∙ unmarked _ (bit_at m k) low (omega (arith, both))),
      ltb-false most (get_or xs k 0) (sym (get_or-map (λ x. nat_lt most x) xs k 0 false l) ∙ unmarked _ (bit_at n k) high (omega (arith, both))),
    )

-- a byte is a digit if it is unmarked as a decimal digit, as a capital or as a small letter
pub digit_by_marks : (b digits x m n o k : ℕ) → digits ≡ min b 10 → b ≤ 16 → (bit_at m k ≡ 0 → (48 ≤ x) × (x ≤ 47 + digits)) → (bit_at n k ≡ 0 → (65 ≤ x) × (x ≤ 64 + (b - digits))) → (bit_at o k ≡ 0 → (97 ≤ x) × (x ≤ 96 + (b - digits))) → bit_at (bit_and (bit_and m n) o) k ≡ 0 → digit_value x < b
digit_by_marks b digits x m n o k e l p q r z =
    let all : min (min (bit_at m k) (bit_at n k)) (bit_at o k) ≡ 0 = ap (λ i. min i (bit_at o k)) (sym (bit_at_and m n k)) ∙ sym (bit_at_and (bit_and m n) o k) ∙ z in
    ⊎_elim (λ (h : bit_at m k < 1). let w = p (omega (arith, h)) in let d = near_zero x digits (omega (arith, e)) w.0 (omega (arith, w.1)) in omega (arith, d, e))
    (λ (h : 1 ≤ bit_at m k). ⊎_elim (λ (i : bit_at n k < 1). let w = q (omega (arith, i)) in let d = near_capital x (b - digits) (omega (arith, e, l)) w.0 (omega (arith, w.1)) in omega (arith, d, e, w.0, w.1))
    (λ (i : 1 ≤ bit_at n k). let w = r (omega (arith, all, h, i)) in let d = near_small x (b - digits) (omega (arith, e, l)) w.0 (omega (arith, w.1)) in omega (arith, d, e, w.0, w.1)) (cases_lt (bit_at n k) 1))
    (cases_lt (bit_at m k) 1)

-- ---- bytes without a mark
clear_below : (n : ℕ) → n < 2 ^ 64 → (k : ℕ) → k < count_trailing_zeros 64 n → bit_at n k ≡ 0
clear_below n h k l = ⊎_elim (λ (z : n < 1). let none : n ≡ 0 = omega (arith, z) in ap (λ i. bit_at i k) none ∙ bit_at-zero k) (λ (s : 1 ≤ n). (bit_at-trailing_zeros w64 n s h).2 k l) (cases_lt n 1)

moved : (n s k : ℕ) → bit_at (n / 2 ^ s) k ≡ bit_at n (s + k)
moved n s k = ap (λ i. i % 2) (div-div-eq-div-mul n (2 ^ s) (2 ^ k) ∙ ap (λ i. n / i) (sym (pow-add 2 s k)))

digits_by_place : (b : ℕ) (bs : List ℕ) (n : ℕ) → n ≤ length bs → ((k : ℕ) → k < n → digit_value (get_or bs k 0) < b) → AllDigits b (take n bs)
digits_by_place b bs zero l h = tt
digits_by_place b [] (suc n) l h = tt
digits_by_place b (x ∷ bs) (suc n) l h = (h 0 (omega arith), digits_by_place b bs n (omega arith) (λ k m. h (suc k) (omega (arith, m))))

pub clear_digits : (b marks from n : ℕ) (bs : List ℕ) → HasMarks b bs marks → marks < 2 ^ 64 → 16 ≤ length bs → length bs ≤ from + 16 → from + n ≤ length bs → n ≤ count_trailing_zeros 64 (marks / 2 ^ (from + 16 - length bs)) → AllDigits b (take n (drop from bs))
clear_digits b marks from n bs h f l late within few =
    let place : ℕ = from + 16 - length bs in
    let small : marks / 2 ^ place < 2 ^ 64 = omega (arith, f, div-le_self marks (2 ^ place)) in
    digits_by_place b (drop from bs) n (omega (arith, length-drop from bs))
    (λ k m. let clear : bit_at marks (place + k) ≡ 0 = sym (moved marks place k) ∙ clear_below (marks / 2 ^ place) small k (omega (arith, m, few)) in
    let digit = h.digit (place + k) (omega (arith, m, within, l, late)) clear in
    rw (get_or-drop from bs k 0) (subst (λ i. digit_value (get_or bs i 0) < b) (omega (arith, l, late)) digit))
