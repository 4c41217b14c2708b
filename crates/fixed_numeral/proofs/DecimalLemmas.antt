-- Decimal digits in the bytes of a word.
use Rattle.std.proofs.Common.{◌≡◌, ℕ, zero, suc, ◌+◌, ◌-◌, ◌*◌, ◌/◌, ◌%◌, ◌^◌, ◌<◌, ◌≤◌, List, [], ◌∷◌, ◌++◌, length, take, drop, get_or, replicate, map, refl, ap, ◌∙◌, arith, cond, nat_lt, Bool, true, false, length-append, length-drop, length-take}
use Rattle.std.specs.Int.Bits.{bit_and}
use Rattle.std.proofs.lemmas.Nat.{and_mask, and_block}
use Rattle.std.proofs.lemmas.Nat.Bits.{and_high_mask}
use Rattle.std.proofs.lemmas.List.{length-replicate}
use Rattle.std.specs.Simd.Lanes.{number_l}
use Rattle.std.specs.Int.Digits.{AllBelowBase}
use Rattle.std.specs.Char.{digit_value}
use Rattle.std.specs.Str.Parse.{AllDigits, digits_value, digits_value_after}
use Rattle.std.specs.Simd.Lanes.{mask_l}
use borrow.Author.Tests.{ltb-false}
use Rattle.fixed_numeral.proofs.ByteLemmas.{low_value_is, near_zero}

-- the value of a decimal digit is the low four bits of its byte
small_digit : (b : ℕ) → digit_value b < 10 → (b < 64) × (b % 16 ≡ digit_value b)
small_digit b h = let small : b < 64 = below b h in (small, low_value_is b h)
  where
    below : (b : ℕ) → digit_value b < 10 → b < 64
    below b h = grind arith

low_halves : (bs : List ℕ) → AllDigits 10 bs → bit_and (number_l 256 bs) (number_l 256 (replicate (length bs) 15)) ≡ number_l 256 (map digit_value bs)
low_halves [] h = refl
low_halves (b ∷ bs) h =
    let small = small_digit b h.0 in
    let n : ℕ = number_l 256 bs in
    let low : ℕ = number_l 256 (replicate (length bs) 15) in
    let rest = low_halves bs h.1 in
    let order : b + 256 * n ≡ n * 2 ^ 8 + b = omega arith in
    omega (arith, (ap (λ x. bit_and x (15 + 256 * low)) order ∙ ap (λ y. bit_and (n * 2 ^ 8 + b) y) (omega arith) ∙ and_block 8 n low b 15 (omega (arith, small.0)) (omega arith)), and_mask b 4, small.1, rest)

pub decimals_are : (word : ℕ) (bs : List ℕ) → length bs ≡ 8 → AllDigits 10 bs → word ≡ number_l 256 bs → bit_and word 0x0f0f_0f0f_0f0f_0f0f ≡ number_l 256 (map digit_value bs)
decimals_are word bs l h e = rw e (rw l at (low_halves bs h))

-- ---- the last few of eight bytes, after zeros
abbrev pub last_bytes : List ℕ
last_bytes = 0 ∷ 0xff00_0000_0000_0000 ∷ 0xffff_0000_0000_0000 ∷ 0xffff_ff00_0000_0000 ∷ 0xffff_ffff_0000_0000 ∷ 0xffff_ffff_ff00_0000 ∷ 0xffff_ffff_ffff_0000 ∷ 0xffff_ffff_ffff_ff00 ∷ 0xffff_ffff_ffff_ffff ∷ []

abbrev pub zeros_before_bytes : List ℕ
zeros_before_bytes = 0x3030_3030_3030_3030 ∷ 0x0030_3030_3030_3030 ∷ 0x3030_3030_3030 ∷ 0x0030_3030_3030 ∷ 0x3030_3030 ∷ 0x0030_3030 ∷ 0x3030 ∷ 0x0030 ∷ 0 ∷ []

few_last : (r a b c d f g i j : ℕ) → r ≤ 8 → AllBelowBase 256 (a ∷ b ∷ c ∷ d ∷ f ∷ g ∷ i ∷ j ∷ []) → number_l 256 (a ∷ b ∷ c ∷ d ∷ f ∷ g ∷ i ∷ j ∷ []) / 2 ^ (64 - 8 * r) * 2 ^ (64 - 8 * r) + get_or zeros_before_bytes r 0 ≡ number_l 256 (replicate (8 - r) 48 ++ drop (8 - r) (a ∷ b ∷ c ∷ d ∷ f ∷ g ∷ i ∷ j ∷ []))
few_last (suc (suc (suc (suc (suc (suc (suc (suc (suc r))))))))) a b c d f g i j s h = absurd (omega arith)
few_last x a b c d f g i j s h = omega arith

last_lanes : (r : ℕ) (ds : List ℕ) → r ≤ 8 → length ds ≡ 8 → AllBelowBase 256 ds → number_l 256 ds / 2 ^ (64 - 8 * r) * 2 ^ (64 - 8 * r) + get_or zeros_before_bytes r 0 ≡ number_l 256 (replicate (8 - r) 48 ++ drop (8 - r) ds)
last_lanes r (a ∷ b ∷ c ∷ d ∷ f ∷ g ∷ i ∷ j ∷ []) s l h = few_last r a b c d f g i j s h
last_lanes r x s l h = absurd (omega arith)

pub below_bytes : (n : ℕ) (k : ℕ) (ds : List ℕ) → AllBelowBase 256 ds → AllBelowBase 256 (replicate n 48 ++ drop k ds)
below_bytes zero zero ds h = h
below_bytes zero (suc k) [] h = tt
below_bytes zero (suc k) (d ∷ ds) h = below_bytes zero k ds h.1
below_bytes (suc n) k ds h = (omega arith, below_bytes n k ds h)

pub zeros_before : (n m : ℕ) (ds : List ℕ) → digits_value_after 10 0 (replicate n 48 ++ ds) ≡ digits_value 10 ds
zeros_before zero m ds = refl
zeros_before (suc n) m ds = zeros_before n m ds

pub digits_after : (n : ℕ) (ds : List ℕ) → AllDigits 10 (replicate n 48 ++ ds) → AllDigits 10 ds
digits_after zero ds h = h
digits_after (suc n) ds h = digits_after n ds h.1

pub last_count : (r : ℕ) (ds : List ℕ) → r ≤ 8 → length ds ≡ 8 → length (replicate (8 - r) 48 ++ drop (8 - r) ds) ≡ 8
last_count r ds s l = omega (arith, length-append (replicate (8 - r) 48) (drop (8 - r) ds), length-replicate {A = ℕ} (8 - r) 48, length-drop (8 - r) ds)

-- the mask keeps the last r bytes in their lanes
kept_last : (r n : ℕ) → r ≤ 8 → n < 2 ^ 64 → bit_and n (get_or last_bytes r 0) ≡ n / 2 ^ (64 - 8 * r) * 2 ^ (64 - 8 * r)
kept_last zero n s h = and_high_mask 64 64 (omega arith) n h
kept_last (suc zero) n s h = and_high_mask 64 56 (omega arith) n h
kept_last (suc (suc zero)) n s h = and_high_mask 64 48 (omega arith) n h
kept_last (suc (suc (suc zero))) n s h = and_high_mask 64 40 (omega arith) n h
kept_last (suc (suc (suc (suc zero)))) n s h = and_high_mask 64 32 (omega arith) n h
kept_last (suc (suc (suc (suc (suc zero))))) n s h = and_high_mask 64 24 (omega arith) n h
kept_last (suc (suc (suc (suc (suc (suc zero)))))) n s h = and_high_mask 64 16 (omega arith) n h
kept_last (suc (suc (suc (suc (suc (suc (suc zero))))))) n s h = and_high_mask 64 8 (omega arith) n h
kept_last (suc (suc (suc (suc (suc (suc (suc (suc zero)))))))) n s h = and_high_mask 64 0 (omega arith) n h
kept_last (suc (suc (suc (suc (suc (suc (suc (suc (suc r))))))))) n s h = absurd (omega arith)

pub padded_is : (r word : ℕ) (bs : List ℕ) → r ≤ 8 → word < 2 ^ 64 → length bs ≡ 8 → AllBelowBase 256 bs → word ≡ number_l 256 bs → bit_and word (get_or last_bytes r 0) + get_or zeros_before_bytes r 0 ≡ number_l 256 (replicate (8 - r) 48 ++ drop (8 - r) bs)
padded_is r word bs s w l h e = ap (λ i. i + get_or zeros_before_bytes r 0) (kept_last r word s w) ∙ rw e (last_lanes r bs s l h)

-- ---- the first few of eight bytes, after zeros
few_first : (r a b c d f g i j : ℕ) → 0 < r → r ≤ 8 → AllBelowBase 256 (a ∷ b ∷ c ∷ d ∷ f ∷ g ∷ i ∷ j ∷ []) → number_l 256 (a ∷ b ∷ c ∷ d ∷ f ∷ g ∷ i ∷ j ∷ []) * 2 ^ (64 - 8 * r) % 2 ^ 64 + 0x0030_3030_3030_3030 / 2 ^ (8 * r - 8) ≡ number_l 256 (replicate (8 - r) 48 ++ take r (a ∷ b ∷ c ∷ d ∷ f ∷ g ∷ i ∷ j ∷ []))
few_first zero a b c d f g i j p s h = absurd (omega arith)
few_first (suc (suc (suc (suc (suc (suc (suc (suc (suc r))))))))) a b c d f g i j p s h = absurd (omega arith)
few_first x a b c d f g i j p s h = omega arith

first_lanes : (r : ℕ) (ds : List ℕ) → 0 < r → r ≤ 8 → length ds ≡ 8 → AllBelowBase 256 ds → number_l 256 ds * 2 ^ (64 - 8 * r) % 2 ^ 64 + 0x0030_3030_3030_3030 / 2 ^ (8 * r - 8) ≡ number_l 256 (replicate (8 - r) 48 ++ take r ds)
first_lanes r (a ∷ b ∷ c ∷ d ∷ f ∷ g ∷ i ∷ j ∷ []) p s l h = few_first r a b c d f g i j p s h
first_lanes r x p s l h = absurd (omega arith)

pub first_padded : (r word : ℕ) (bs : List ℕ) → 0 < r → r ≤ 8 → length bs ≡ 8 → AllBelowBase 256 bs → word ≡ number_l 256 bs → word * 2 ^ (64 - 8 * r) % 2 ^ 64 + 0x0030_3030_3030_3030 / 2 ^ (8 * r - 8) ≡ number_l 256 (replicate (8 - r) 48 ++ take r bs)
first_padded r word bs p s l h e = rw e (first_lanes r bs p s l h)

pub first_pad_fits : (r word : ℕ) → 0 < r → r ≤ 8 → word < 2 ^ 64 → word * 2 ^ (64 - 8 * r) % 2 ^ 64 + 0x0030_3030_3030_3030 / 2 ^ (8 * r - 8) < 2 ^ 64
first_pad_fits zero word p s h = absurd (omega arith)
first_pad_fits (suc (suc (suc (suc (suc (suc (suc (suc (suc r))))))))) word p s h = absurd (omega arith)
first_pad_fits x word p s h = omega arith

pub below_first : (n k : ℕ) (ds : List ℕ) → AllBelowBase 256 ds → AllBelowBase 256 (replicate n 48 ++ take k ds)
below_first zero (suc k) (d ∷ ds) h = (h.0, below_first zero k ds h.1)
below_first (suc n) k ds h = (omega arith, below_first n k ds h)
below_first zero k ds h = tt

pub first_count : (r : ℕ) (ds : List ℕ) → r ≤ 8 → length ds ≡ 8 → length (replicate (8 - r) 48 ++ take r ds) ≡ 8
first_count r ds s l = omega (arith, length-append (replicate (8 - r) 48) (take r ds), length-replicate {A = ℕ} (8 - r) 48, length-take r ds)

-- ---- bytes that are all decimal digits
no_marks : (c : Bool) (n : ℕ) → cond c 1 0 + 2 * n ≡ 0 → (c ≡ false) × (n ≡ 0)
no_marks true n h = absurd (omega arith)
no_marks false n h = (refl, omega arith)

pub unmarked_digits : (xs : List ℕ) → mask_l (map (λ x. nat_lt x 48) xs) ≡ 0 → mask_l (map (λ x. nat_lt 57 x) xs) ≡ 0 → AllDigits 10 xs
unmarked_digits [] p q = tt
unmarked_digits (x ∷ xs) p q =
    let low = no_marks (nat_lt x 48) (mask_l (map (λ y. nat_lt y 48) xs)) p in
    let high = no_marks (nat_lt 57 x) (mask_l (map (λ y. nat_lt 57 y) xs)) q in
    let most : x ≤ 57 = ltb-false 57 x high.0 in
    (near_zero x 10 (omega arith) (ltb-false x 48 low.0) (omega arith), unmarked_digits xs low.1 high.1)

-- the last bytes of a word as digits
pub ruleset last_digits = (last_count, below_bytes, zeros_before, digits_after)
