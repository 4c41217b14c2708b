-- Digits in the lanes of a vector.
use Rattle.std.proofs.Common.{◌≡◌, ℕ, zero, suc, ◌+◌, ◌-◌, ◌*◌, ◌/◌, ◌%◌, ◌^◌, ◌<◌, Bool, not, cond, eqb, w8, List, [], ◌∷◌, map, length, replicate, refl, ap, ◌∙◌, arith, pow-suc, div-add-mod', div-lt_iff_lt-mul}
use Rattle.std.proofs.Math.Nat.{pow-zero}
use Rattle.std.specs.Int.Digits.{AllBelowBase}
use Rattle.std.specs.Simd.Lanes.{number_l}
use lib.Lanes.{zip2, digits_l, mask_l, top}
use Rattle.std.proofs.lemmas.Simd.{mask_l-lt, bitmask_splat}
use Rattle.std.proofs.lemmas.List.{length-map}
use Rattle.fixed_write.specs.Inner.Lanes.{digits_of_pairs, is_other_digit}

number_of_digits : (p n x : ℕ) → 0 < p → x < p ^ n → number_l p (digits_l p n x) ≡ x
number_of_digits p zero x some h = omega (arith, pow-zero p)
number_of_digits p (suc n) x some h =
    let less : x / p < p ^ n = (div-lt_iff_lt-mul some).1 (rw (← pow-suc p n) h) in
    rw (number_of_digits p n (x / p) some less) (omega (arith, div-add-mod' x p))

-- a word as four lanes of 16 bits
pub quarters : (w a b c d : ℕ) → a < 10000 → b < 10000 → c < 10000 → d < 10000 → w ≡ a + b * 2 ^ 16 + (c + d * 2 ^ 16) * 2 ^ 32 → digits_l 65536 8 (number_l 256 (digits_l 256 16 (number_l (2 ^ 64) (w ∷ 0 ∷ [])))) ≡ a ∷ b ∷ c ∷ d ∷ 0 ∷ 0 ∷ 0 ∷ 0 ∷ []
quarters w a b c d p q r s e =
    let x = a + 65536 * (b + 65536 * (c + 65536 * (d + 65536 * 0))) in
    let same : w + 0 ≡ x = omega arith in
    ap (digits_l 65536 8) (number_of_digits 256 16 (w + 0) (omega arith) (omega arith) ∙ same) ∙ lowest 7 a _ p ∙ ap (λ l. a ∷ l) (lowest 6 b _ q ∙ ap (λ l. b ∷ l) (lowest 5 c _ r ∙ ap (λ l. c ∷ l) (lowest 4 d 0 s)))
  where
    lowest : (n a x : ℕ) → a < 10000 → digits_l 65536 (suc n) (a + 65536 * x) ≡ a ∷ digits_l 65536 n x
    lowest n a x h =
        let low : (a + 65536 * x) % 65536 ≡ a = omega arith in
        let high : (a + 65536 * x) / 65536 ≡ x = omega arith in
        λ i. low i ∷ digits_l 65536 n (high i)

pub rest_of : (x y : ℕ) → x < 10000 → x % 100 ≡ y → (x + (65536 - x / 100 * 100 % 65536)) % 65536 ≡ y
rest_of x y h e = omega arith

abbrev pub lane : ℕ → ℕ
lane z = (z * 256 % 65536 + (65536 - z / 10 * 2559 % 65536)) % 65536

abbrev pub twice : List ℕ → ℕ
twice [] = 0
twice (z ∷ zs) = suc (suc (twice zs))

pub bytes_of : (zs : List ℕ) → AllBelowBase 100 zs → digits_l 256 (twice zs) (number_l 65536 (map lane zs)) ≡ digits_of_pairs zs
bytes_of [] h = refl
bytes_of (z ∷ zs) h =
    let rest = number_l 65536 (map lane zs) in
    let is : lane z ≡ z / 10 + 256 * (z % 10) = omega (arith, h.0) in
    let tens : (lane z + 65536 * rest) % 256 ≡ z / 10 = rw is (omega (arith, h.0)) in
    let ones : (lane z + 65536 * rest) / 256 % 256 ≡ z % 10 = rw is (omega (arith, h.0)) in
    let on : (lane z + 65536 * rest) / 256 / 256 ≡ rest = rw is (omega (arith, h.0)) in
    (λ i. tens i ∷ ones i ∷ digits_l 256 (twice zs) (on i)) ∙ ap (λ l. z / 10 ∷ z % 10 ∷ l) (bytes_of zs h.1)

pub digits_below : (zs : List ℕ) → AllBelowBase 100 zs → AllBelowBase 10 (digits_of_pairs zs)
digits_below [] h = tt
digits_below (z ∷ zs) h = (omega (arith, h.0), (omega arith, digits_below zs h.1))

-- the characters of digits
abbrev pub wrapped_add : ℕ → ℕ → ℕ
wrapped_add a b = (a + b) % 2 ^ 8

pub added : (xs : List ℕ) (n : ℕ) → length xs ≡ n → AllBelowBase 10 xs → zip2 wrapped_add (replicate n 48) xs ≡ map (λ d. 48 + d) xs
added [] n e h = let none : n ≡ 0 = omega arith in rw none refl
added (x ∷ xs) zero e h = absurd (omega arith)
added (x ∷ xs) (suc n) e h =
    let one : wrapped_add 48 x ≡ 48 + x = omega (arith, h.0) in
    λ i. one i ∷ added xs n (omega arith) h.1 i

-- the characters other than '0'
abbrev differs : ℕ → ℕ → Bool
differs a b = not (eqb a b)

pub other_digits_are : (xs : List ℕ) → length xs ≡ 16 → mask_l (map (top 7) (zip2 (λ a b. cond (differs a b) 255 0) xs (replicate 16 48))) % 2 ^ 64 ≡ mask_l (map is_other_digit xs)
other_digits_are xs long = bitmask_splat w8 differs xs 16 48 long (omega arith)

pub other_digits_below : (xs : List ℕ) → length xs ≡ 16 → mask_l (map (top 7) (zip2 (λ a b. cond (differs a b) 255 0) xs (replicate 16 48))) % 2 ^ 64 < 2 ^ 16
other_digits_below xs long =
    let many : length (map is_other_digit xs) ≡ 16 = length-map xs is_other_digit ∙ long in
    rw (other_digits_are xs long) (rw many at (mask_l-lt (map is_other_digit xs)))
